-- A text that does not begin with another.
use Rattle.std.proofs.Common.{◌≡◌, ℕ, Bool, true, false, List, ◌++◌, ◌∷◌, length, drop, eqb, refl, sym}
use Rattle.std.specs.Prelude.{codes}
use Rattle.std.specs.List.{starts_with}
use Rattle.std.proofs.lemmas.Slice.Eq.{starts_is}
use Rattle.std.proofs.lemmas.Bool.Decides.{Decides-eqb}

pub no_prefix : (text front : List ℕ) → ((rest : List ℕ) → text ≡ front ++ rest → ⊥) → starts_with eqb text front ≡ false
no_prefix text front never = by (starts_with eqb text front) refl
  where
    by : (b : Bool) → starts_with eqb text front ≡ b → b ≡ false
    by true e = absurd (never (drop (length front) text) ((starts_is Decides-eqb text front true (sym e)).0 refl))
    by false e = refl

-- a text that begins with `!`
pub marked : (text rest : List ℕ) → text ≡ 33 ∷ rest → starts_with eqb text (codes "!") ≡ true
marked text rest e = rw e refl
