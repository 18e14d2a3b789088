-- The parts of an alternative, from its tokens.
use Rattle.std.specs.Prelude.{Bool, true, false, ◌&&◌, List, [], ◌∷◌, Option, Some, None, if◌then◌else◌}
use Rattle.std.specs.List.{filter_map}
use Rattle.glob_syntax.specs.declared.atom.Atom.{Atom}
use Rattle.glob_syntax.specs.declared.atom.Atom.TheVariants as atom
use Rattle.glob_syntax.specs.declared.part.Part.{Part}
use Rattle.glob_syntax.specs.declared.part.Part.TheVariants as part
use Rattle.glob_syntax.specs.declared.token.Sign.{Sign}
use Rattle.glob_syntax.specs.declared.token.Sign.TheVariants as sign
use Rattle.glob_syntax.specs.declared.token.Token.{Token}
use Rattle.glob_syntax.specs.Characters.{comma, slash, open_bracket, open_brace, close_brace}
use Rattle.glob_syntax.specs.Tokens.{is_dot, is_star_sign}
use Rattle.glob_syntax.specs.Climbs.{components_of}

-- a brace, comma or `[` that has no meaning where it stands is itself
abbrev pub atom_of : Sign → Atom
atom_of sign.Open = atom.Char open_brace
atom_of sign.Close = atom.Char close_brace
atom_of sign.Comma = atom.Char comma
atom_of sign.Slash = atom.Char slash
atom_of sign.OpenClass = atom.Char open_bracket
atom_of (sign.Atom atom) = atom

-- the atoms of a component, behind a `*` or not, with one `*` for a run of them
abbrev pub name_from : Bool → List Token → List Atom
name_from after [] = []
name_from after (token ∷ tokens) = if is_star_sign token.sign then (if after then name_from true tokens else atom.Star ∷ name_from true tokens) else atom_of token.sign ∷ name_from false tokens

abbrev pub named : List Token → Part
named component = part.Named (name_from false component)

-- `**` is a span; nothing and `.` are no part
abbrev pub part_of : List Token → Option Part
part_of [] = None
part_of (a ∷ []) = if is_dot a.sign then None else Some (named (a ∷ []))
part_of (a ∷ b ∷ []) = if is_star_sign a.sign && is_star_sign b.sign then Some part.Span else Some (named (a ∷ b ∷ []))
part_of (a ∷ b ∷ c ∷ more) = Some (named (a ∷ b ∷ c ∷ more))

-- the parts of an alternative
abbrev pub parts_of : List Token → List Part
parts_of tokens = filter_map part_of (components_of tokens)
