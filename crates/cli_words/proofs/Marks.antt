-- Words around a character, as std cuts them.
use Rattle.std.proofs.Common.{◌≡◌, ◌<◌, ◌+◌, ◌==◌, ℕ, suc, Bool, true, false, cond, List, [], ◌∷◌, length, take, drop, Option, Some, None, refl, ap, arith}
use Rattle.std.specs.Prelude.{if◌then◌else◌, not}
use Rattle.std.specs.List.{position_or_len, before_first, after_first}
use Rattle.cli_words.specs.Cuts.{before, behind}

module _ (mark : ℕ) where
  first_step : (b : ℕ) (s : Bool) (rest front : List ℕ) (n : ℕ) → front ≡ take n rest → (if s then [] else b ∷ front) ≡ take (cond (not s) (1 + n) 0) (b ∷ rest)
  first_step b true rest front n h = refl
  first_step b false rest front n h = let e : 1 + n ≡ suc n = omega arith in rw (h, e) refl

  -- up to the first mark, as std has it
  pub before-first : (text : List ℕ) → before mark text ≡ before_first (λ b. b == mark) text
  unfolding before
  before-first [] = refl
  before-first (b ∷ rest) = first_step b (b == mark) rest (before mark rest) (position_or_len (λ b. b == mark) rest) (before-first rest)

  found_step : (b : ℕ) (s : Bool) (rest : List ℕ) (later : Option (List ℕ)) (n : ℕ) → (n < length rest → later ≡ Some (drop (n + 1) rest)) → cond (not s) (1 + n) 0 < length (b ∷ rest)
      → (if s then Some rest else later) ≡ Some (drop (cond (not s) (1 + n) 0 + 1) (b ∷ rest))
  found_step b true rest later n ih h = refl
  found_step b false rest later n ih h = let e : 1 + n + 1 ≡ suc (n + 1) = omega arith in rw e (ih (omega (arith, h)))

  -- behind the first mark, where there is one
  pub behind-found : (text : List ℕ) → position_or_len (λ b. b == mark) text < length text → behind mark text ≡ Some (after_first (λ b. b == mark) text)
  unfolding behind
  behind-found [] h = absurd (omega (arith, h))
  behind-found (b ∷ rest) h = found_step b (b == mark) rest (behind mark rest) (position_or_len (λ b. b == mark) rest) (behind-found rest) h

  none_step : (b : ℕ) (s : Bool) (rest front : List ℕ) (later : Option (List ℕ)) (n : ℕ) → (n ≡ length rest → (later ≡ None) × (front ≡ rest)) → cond (not s) (1 + n) 0 ≡ length (b ∷ rest)
      → ((if s then Some rest else later) ≡ None) × ((if s then [] else b ∷ front) ≡ b ∷ rest)
  none_step b true rest front later n ih h = absurd (omega (arith, h))
  none_step b false rest front later n ih h = let t = ih (omega (arith, h)) in (t.0, ap (λ x. b ∷ x) t.1)

  -- all, where there is none
  pub mark-none : (text : List ℕ) → position_or_len (λ b. b == mark) text ≡ length text → (behind mark text ≡ None) × (before mark text ≡ text)
  unfolding before behind
  mark-none [] h = (refl, refl)
  mark-none (b ∷ rest) h = none_step b (b == mark) rest (before mark rest) (behind mark rest) (position_or_len (λ b. b == mark) rest) (mark-none rest) h
