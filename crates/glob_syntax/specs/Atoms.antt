-- The pattern of one component: which single characters an atom takes (`?`, classes and plain characters as in POSIX pattern matching notation, Shell Command Language, section 2.13; ranges by scalar value).
use Rattle.std.specs.Prelude.{◌==◌, ℕ, Bool, true, false, not, ◌&&◌, nat_le, List, if◌then◌else◌}
use Rattle.std.specs.List.{list_any}
use Rattle.glob_syntax.specs.declared.atom.Class.{Class}
use Rattle.glob_syntax.specs.declared.atom.Atom.{Atom}
use Rattle.glob_syntax.specs.declared.atom.Atom.TheVariants.{Star, One, Char, OneOf}

-- one of the ranges has the character
abbrev pub is_listed : List (ℕ × ℕ) → ℕ → Bool
is_listed ranges c = list_any (λ r. nat_le r.0 c && nat_le c r.1) ranges

-- one of the ranges has the character, or none of them where the class is negated
abbrev pub class_takes : Class → ℕ → Bool
class_takes k c = if k.0 then not (is_listed k.1 c) else is_listed k.1 c

abbrev pub is_star : Atom → Bool
is_star Star = true
is_star One = false
is_star (Char d) = false
is_star (OneOf k) = false

-- no wildcard
abbrev pub is_char : Atom → Bool
is_char Star = false
is_char One = false
is_char (Char d) = true
is_char (OneOf k) = false

-- the atom takes this one character
abbrev pub accepts : Atom → ℕ → Bool
accepts Star c = false
accepts One c = true
accepts (Char d) c = c == d
accepts (OneOf k) c = class_takes k c
