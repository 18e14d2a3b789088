-- Classes of characters (bracket expressions of POSIX pattern matching notation, Shell Command Language, section 2.13.1).
use Rattle.std.specs.Prelude.{ℕ, Bool, true, false, not, ◌&&◌, ◌||◌, List, [], ◌∷◌, if◌then◌else◌}
use Rattle.glob_syntax.specs.declared.mark.Mark.{Mark}
use Rattle.glob_syntax.specs.declared.atom.Class.{Class}
use Rattle.glob_syntax.specs.declared.class.Negation.{Negation}
use Rattle.glob_syntax.specs.declared.class.Negation.TheVariants.{ExclamationMark, ExclamationMarkOrCircumflex}
use Rattle.glob_syntax.specs.Characters.{exclamation_mark, circumflex, hyphen, close_bracket}
use Rattle.glob_syntax.specs.Marks.{is_plain}

-- a sign that negates a class in front of which it stands
abbrev pub negates : Negation → Mark → Bool
negates ExclamationMark m = is_plain exclamation_mark m
negates ExclamationMarkOrCircumflex m = is_plain exclamation_mark m || is_plain circumflex m

-- what stands behind the `[` so far has a member; a first sign that negates is none
abbrev pub has_member : Negation → List Mark → Bool
has_member negation [] = false
has_member negation (m ∷ []) = not (negates negation m)
has_member negation (m ∷ n ∷ more) = true

-- this is the `]` that ends the class; behind nothing but `[` or `[!` it is a member
abbrev pub ends_class : Negation → List Mark → Mark → Bool
ends_class negation body m = is_plain close_bracket m && has_member negation body

-- `a-z` is a range, each other character is itself
abbrev pub members : List Mark → List (ℕ × ℕ)
members [] = []
members (a ∷ []) = (a.character, a.character) ∷ []
members (a ∷ b ∷ []) = (a.character, a.character) ∷ (b.character, b.character) ∷ []
members (a ∷ b ∷ z ∷ zs) = if is_plain hyphen b then (a.character, z.character) ∷ members zs else (a.character, a.character) ∷ members (b ∷ z ∷ zs)

-- the class with this between its `[` and `]`
abbrev pub class_of : Negation → List Mark → Class
class_of negation [] = (false, [])
class_of negation (m ∷ ms) = if negates negation m then (true, members ms) else (false, members (m ∷ ms))
