-- A search by halves among numbers that rise.
use Rattle.std.proofs.Common.{◌≡◌, inl, inr, ℕ, ◌≤◌, ◌<◌, Bool, false, List, length, get_or, sym, arith, eq-eqb}
use Rattle.std.specs.Prelude.{MatchResult, Result, Ok, Err, nat_eq}
use Rattle.std.specs.List.{list_any}
use Rattle.std.proofs.lemmas.Bool.{cases_lt, ne_eqb}
use Rattle.std.proofs.lemmas.List.Folds.{list_any_at, list_any_none}
use Rattle.std.proofs.lemmas.List.Elements.{All-from_get_or}
use Rattle.std.specs.Result.{is_ok}
use Rattle.pair_reader.specs.Answers.{is_among}

none_is : (p : ℕ → Bool) (xs : List ℕ)
    → ((i : ℕ) → i < length xs → p (get_or xs i 0) ≡ false) → list_any p xs ≡ false
none_is p xs none =
    list_any_none p xs (All-from_get_or (λ (x : ℕ). p x ≡ false) xs 0 none)

-- what was found says whether the number is among them
pub among_by : (lens : List ℕ) (len : ℕ) (r : Result ℕ ℕ)
    → MatchResult r (λ i. (i < length lens) × (get_or lens i 0 ≡ len))
    (λ i. (i ≤ length lens) × ((k : ℕ) → k < i → get_or lens k 0 < len)
    × ((k : ℕ) → i ≤ k → k < length lens → len < get_or lens k 0))
    → is_ok r ≡ is_among lens len
among_by lens len (Ok i) found =
    sym (list_any_at (λ other. nat_eq other len) lens i 0 found.0 (eq-eqb _ _ found.1))
among_by lens len (Err i) around =
    sym (none_is (λ other. nat_eq other len) lens (λ k lt. elim (cases_lt k i) [
      | inl before ↦ let less = around.1 k before in ne_eqb _ _ (λ same. absurd (omega (arith, less, same)))
      | inr behind ↦ let more = around.2 k behind lt in ne_eqb _ _ (λ same. absurd (omega (arith, more, same)))
    ]))
