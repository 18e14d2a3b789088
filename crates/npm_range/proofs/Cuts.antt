-- Texts around their first mark.
use Rattle.std.proofs.Common.{◌≡◌, ◌≢◌, ◌<◌, ◌+◌, ◌==◌, ℕ, suc, Bool, true, false, cond, List, [], ◌∷◌, ◌++◌, length, take, drop, Option, Some, None, refl, sym, ◌∙◌, ap, arith}
use Rattle.std.specs.Prelude.{if◌then◌else◌, not}
use Rattle.std.specs.List.{position_or_len, before_first, after_first, slice_split, onto_first}
use Rattle.std.proofs.lemmas.Bool.Decides.{nat_tests}
use Rattle.npm_range.specs.Grammar.{before, behind, without, seen}

first_step : (b : ℕ) (s : Bool) (rest front : List ℕ) (n : ℕ) → front ≡ take n rest → (if s then [] else b ∷ front) ≡ take (cond (not s) (1 + n) 0) (b ∷ rest)
first_step b true rest front n h = refl
first_step b false rest front n h = let e : 1 + n ≡ suc n = omega arith in rw (h, e) refl

-- up to the first mark, as std has it
pub before-first : (mark : ℕ) (text : List ℕ) → before mark text ≡ before_first (λ b. b == mark) text
before-first mark [] = refl
before-first mark (b ∷ rest) = first_step b (b == mark) rest (before mark rest) (position_or_len (λ b. b == mark) rest) (before-first mark rest)

found_step : (b : ℕ) (s : Bool) (rest : List ℕ) (later : Option (List ℕ)) (n : ℕ) → (n < length rest → later ≡ Some (drop (n + 1) rest)) → cond (not s) (1 + n) 0 < length (b ∷ rest)
    → (if s then Some rest else later) ≡ Some (drop (cond (not s) (1 + n) 0 + 1) (b ∷ rest))
found_step b true rest later n ih h = refl
found_step b false rest later n ih h = let e : 1 + n + 1 ≡ suc (n + 1) = omega arith in rw e (ih (omega (arith, h)))

-- behind the first mark, where there is one
pub behind-found : (mark : ℕ) (text : List ℕ) → position_or_len (λ b. b == mark) text < length text → behind mark text ≡ Some (after_first (λ b. b == mark) text)
behind-found mark [] h = absurd (omega (arith, h))
behind-found mark (b ∷ rest) h = found_step b (b == mark) rest (behind mark rest) (position_or_len (λ b. b == mark) rest) (behind-found mark rest) h

none_step : (b : ℕ) (s : Bool) (rest front : List ℕ) (later : Option (List ℕ)) (n : ℕ) → (n ≡ length rest → (later ≡ None) × (front ≡ rest)) → cond (not s) (1 + n) 0 ≡ length (b ∷ rest)
    → ((if s then Some rest else later) ≡ None) × ((if s then [] else b ∷ front) ≡ b ∷ rest)
none_step b true rest front later n ih h = absurd (omega (arith, h))
none_step b false rest front later n ih h = let t = ih (omega (arith, h)) in (t.0, ap (λ x. b ∷ x) t.1)

-- all, where there is no mark
pub behind-none : (mark : ℕ) (text : List ℕ) → position_or_len (λ b. b == mark) text ≡ length text → (behind mark text ≡ None) × (before mark text ≡ text)
behind-none mark [] h = (refl, refl)
behind-none mark (b ∷ rest) h = none_step b (b == mark) rest (before mark rest) (behind mark rest) (position_or_len (λ b. b == mark) rest) (behind-none mark rest) h

same_step : (mark : ℕ) (rest : List ℕ) (s : Bool) → (mark == mark) ≡ s → (if s then rest else mark ∷ rest) ≡ rest
same_step mark rest true e = refl
same_step mark rest false e = absurd (grind (arith, nat_tests, e))

-- a text that begins with the mark, and one that doesn't
pub without-found : (mark : ℕ) (text rest : List ℕ) → text ≡ mark ∷ rest → without mark text ≡ rest
without-found mark text rest h = rw h (same_step mark rest (mark == mark) refl)

without_step : (b mark : ℕ) (s : Bool) (rest : List ℕ) → (b == mark) ≡ s → ((later : List ℕ) → b ∷ rest ≢ mark ∷ later) → (if s then rest else b ∷ rest) ≡ b ∷ rest
without_step b mark true rest e h = let t : b ≡ mark = grind (arith, nat_tests, e) in absurd (h rest (rw t refl))
without_step b mark false rest e h = refl

pub without-none : (mark : ℕ) (text : List ℕ) → ((rest : List ℕ) → text ≢ mark ∷ rest) → without mark text ≡ text
without-none mark [] h = refl
without-none mark (b ∷ rest) h = without_step b mark (b == mark) rest refl h
