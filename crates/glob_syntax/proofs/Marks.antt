-- The characters of a text: one more that quotes none.
use Rattle.std.proofs.Common.{◌≡◌, ◌==◌, ◌≤◌, ◌+◌, ℕ, false, List, [], ◌∷◌, length, refl, ap, arith, inl, inr}
use Rattle.std.specs.Str.{chars, IsUtf8}
use Rattle.std.proofs.lemmas.Bool.Decides.{nat_tests}
use Rattle.std.proofs.lemmas.Str.{length-le-encodes, encodes-chars}
use Rattle.glob_syntax.specs.Characters.{backslash}
use Rattle.glob_syntax.specs.Marks.{plain_mark, marks_of, NotQuoting}

pub marks_of-plain : (at c : ℕ) (cs : List ℕ) → NotQuoting c cs → marks_of at (c ∷ cs) ≡ plain_mark at c ∷ marks_of (at + 1) cs
marks_of-plain at c [] h = refl
marks_of-plain at c (d ∷ cs) (inl other) = let e : (c == backslash) ≡ false = grind (arith, nat_tests) in rw e refl
marks_of-plain at c (d ∷ cs) (inr none) = cc

-- a text has at most as many characters as bytes
pub length-chars-le : (bs : List ℕ) → IsUtf8 bs → length (chars bs) ≤ length bs
length-chars-le bs u = omega (arith, length-le-encodes (chars bs), ap length (encodes-chars bs u))
