-- Numbers that rise.
use Rattle.std.proofs.Common.{◌≡◌, inl, inr, ℕ, ◌≤◌, ◌<◌, List, length, get_or, ap, arith}
use Rattle.std.specs.List.Sorted.{IsStrictlyIncreasing}
use Rattle.std.proofs.lemmas.Bool.{cases_lt}
use Rattle.std.proofs.lemmas.Map.Keys.{below_from_sorted, sorted_from_strictly_increasing}

-- none stands behind a greater one
pub rise_of : (xs : List ℕ) → IsStrictlyIncreasing xs
    → (i j : ℕ) → i ≤ j → j < length xs → get_or xs i 0 ≤ get_or xs j 0
rise_of xs x i j le lt = elim (cases_lt i j) [
  | inl less ↦
      let below = below_from_sorted xs i j 0 (sorted_from_strictly_increasing xs x) less lt in omega (arith, below)
  | inr past ↦
      let same : i ≡ j = omega (arith, le, past) in omega (arith, ap (λ (k : ℕ). get_or xs k 0) same)
]
