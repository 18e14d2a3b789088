-- What stands behind the first `#` of a key.
use Rattle.std.proofs.Common.{◌≡◌, ◌<◌, ◌+◌, ◌==◌, ℕ, suc, Bool, true, false, cond, List, [], ◌∷◌, length, drop, Option, Some, None, refl, arith}
use Rattle.std.specs.Prelude.{not}
use Rattle.std.specs.List.{position_or_len, after_first}
use Rattle.turbo_config.specs.Names.{behind_hash}

found_step : (b : ℕ) (s : Bool) (rest : List ℕ) (later : Option (List ℕ)) (n : ℕ) → (n < length rest → later ≡ Some (drop (n + 1) rest)) → cond (not s) (1 + n) 0 < length (b ∷ rest)
    → cond s (Some rest) later ≡ Some (drop (cond (not s) (1 + n) 0 + 1) (b ∷ rest))
found_step b true rest later n ih h = refl
found_step b false rest later n ih h = let e : 1 + n + 1 ≡ suc (n + 1) = omega arith in rw e (ih (omega (arith, h)))

pub behind_found : (text : List ℕ) → position_or_len (λ b. b == 35) text < length text → behind_hash text ≡ Some (after_first (λ b. b == 35) text)
behind_found [] h = absurd (omega (arith, h))
behind_found (b ∷ rest) h = found_step b (b == 35) rest (behind_hash rest) (position_or_len (λ b. b == 35) rest) (behind_found rest) h

none_step : (b : ℕ) (s : Bool) (rest : List ℕ) (later : Option (List ℕ)) (n : ℕ) → (n ≡ length rest → later ≡ None) → cond (not s) (1 + n) 0 ≡ length (b ∷ rest) → cond s (Some rest) later ≡ None
none_step b true rest later n ih h = absurd (omega (arith, h))
none_step b false rest later n ih h = ih (omega (arith, h))

pub behind_none : (text : List ℕ) → position_or_len (λ b. b == 35) text ≡ length text → behind_hash text ≡ None
behind_none [] h = refl
behind_none (b ∷ rest) h = none_step b (b == 35) rest (behind_hash rest) (position_or_len (λ b. b == 35) rest) (behind_none rest) h
