-- The parts of a pattern (gitignore: "Two consecutive asterisks ("**") in patterns matched against
-- full pathname may have special meaning").
use Rattle.std.specs.Prelude.{Bool, false, not, ◌&&◌, List, [], ◌∷◌, if◌then◌else◌}
use Rattle.std.specs.List.{flat_map}
use Rattle.glob_syntax.specs.Atoms.{is_star}
use Rattle.glob_syntax.specs.declared.atom.Atom.{Atom}
use Rattle.glob_syntax.specs.declared.atom.Atom.TheVariants as atom
use Rattle.glob_syntax.specs.declared.part.Part.{Part}
use Rattle.glob_syntax.specs.declared.part.Part.TheVariants as part
use Rattle.ignore_rules.specs.declared.sign.Sign.{Sign}
use Rattle.ignore_rules.specs.declared.sign.Sign.TheVariants as sign

-- an atom in front of the first component
abbrev pub onto_first : Atom → List (List Atom × Bool) → List (List Atom × Bool)
onto_first a [] = []
onto_first a (component ∷ components) = (a ∷ component.0, component.1) ∷ components

-- what stands between the slashes, each with whether a plain `/` follows it
abbrev pub components_of : List Sign → List (List Atom × Bool)
components_of [] = ([], false) ∷ []
components_of (sign.Slash quoted ∷ signs) = ([], not quoted) ∷ components_of signs
components_of (sign.Atom a ∷ signs) = onto_first a (components_of signs)

-- `**`
abbrev pub is_double : List Atom → Bool
is_double [] = false
is_double (a ∷ []) = false
is_double (a ∷ b ∷ []) = is_star a && is_star b
is_double (a ∷ b ∷ c ∷ more) = false

abbrev pub any_name : Part
any_name = part.Named (atom.Star ∷ [])

-- any number of components where a plain `/` follows; at least one where a quoted `/` follows,
-- since git drops the separator behind `**` only where it is plain, and at the end of a pattern
abbrev pub span_before : Bool → List Part
span_before plain = if plain then part.Span ∷ [] else part.Span ∷ any_name ∷ []

-- `**` is a span, every other component a name; several `*` in a name are as one
abbrev pub parts_written : List Atom × Bool → List Part
parts_written component =
    if is_double component.0 then span_before component.1 else part.Named component.0 ∷ []

-- the parts of a pattern
abbrev pub parts_of : List Sign → List Part
parts_of signs = flat_map parts_written (components_of signs)
