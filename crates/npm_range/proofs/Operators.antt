-- Words that begin with no operator.
use Rattle.std.proofs.Common.{◌≡◌, ◌≢◌, ◌==◌, ℕ, Bool, true, false, List, [], ◌∷◌, Option, Some, None, refl, arith}
use Rattle.std.specs.Prelude.{if◌then◌else◌}
use Rattle.std.proofs.lemmas.Bool.Decides.{nat_tests}
use Rattle.npm_range.specs.declared.comparator.Operator.{Operator}
use Rattle.npm_range.specs.Grammar.{operator_at, or_equal}

other_step : (b mark : ℕ) (rest : List ℕ) (s : Bool) → (b == mark) ≡ s → ((later : List ℕ) → b ∷ rest ≢ mark ∷ later) → s ≡ false
other_step b mark rest true e h = let t : b ≡ mark = grind (arith, nat_tests, e) in absurd (h rest (rw t refl))
other_step b mark rest false e h = refl

-- the first byte is another one
other : (b mark : ℕ) (rest : List ℕ) → ((later : List ℕ) → b ∷ rest ≢ mark ∷ later) → (b == mark) ≡ false
other b mark rest h = other_step b mark rest (b == mark) refl h

pub or_equal-none : (alone with_equal : Operator) (text : List ℕ) → ((later : List ℕ) → text ≢ 61 ∷ later) → or_equal alone with_equal text ≡ (Some alone, text)
or_equal-none alone with_equal [] h = refl
or_equal-none alone with_equal (b ∷ rest) h = rw (other b 61 rest h) refl

pub operator_at-none : (text : List ℕ) → ((later : List ℕ) → text ≢ 126 ∷ later) → ((later : List ℕ) → text ≢ 94 ∷ later) → ((later : List ℕ) → text ≢ 61 ∷ later)
    → ((later : List ℕ) → text ≢ 62 ∷ later) → ((later : List ℕ) → text ≢ 60 ∷ later) → operator_at text ≡ (None, text)
operator_at-none [] tilde caret equal above below = refl
operator_at-none (b ∷ rest) tilde caret equal above below =
    rw (other b 126 rest tilde, other b 94 rest caret, other b 61 rest equal, other b 62 rest above, other b 60 rest below) refl
