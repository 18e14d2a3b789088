-- The signs of a pattern: separators, wildcards, classes and plain characters.
use Rattle.std.specs.Prelude.{◌==◌, ℕ, List, [], ◌∷◌, ◌++◌, Option, Some, None, if◌then◌else◌}
use Rattle.glob_syntax.specs.declared.atom.Atom.{Atom}
use Rattle.glob_syntax.specs.declared.atom.Atom.TheVariants as atom
use Rattle.glob_syntax.specs.declared.mark.Mark.{Mark}
use Rattle.glob_syntax.specs.declared.class.Negation.{Negation}
use Rattle.glob_syntax.specs.declared.class.Negation.TheVariants.{ExclamationMarkOrCircumflex}
use Rattle.glob_syntax.specs.Characters.{asterisk, question_mark, open_bracket}
use Rattle.glob_syntax.specs.Marks.{is_plain, is_slash}
use Rattle.glob_syntax.specs.Classes.{ends_class, class_of}
use Rattle.ignore_rules.specs.declared.sign.Sign.{Sign}
use Rattle.ignore_rules.specs.declared.sign.Sign.TheVariants as sign

-- a class is negated by `!` and, as git has it, by `^`
abbrev pub negation : Negation
negation = ExclamationMarkOrCircumflex

abbrev pub plain_atom : ℕ → Atom
plain_atom c =
    if c == asterisk then atom.Star else
    (if c == question_mark then atom.One else atom.Char c)

-- what a character says that begins no class: a `/` separates, also where it is quoted, and every
-- other quoted character is itself
abbrev pub sign_of : Mark → Sign
sign_of m =
    if is_slash m then sign.Slash m.quoted else
    (if m.quoted then sign.Atom (atom.Char m.character) else sign.Atom (plain_atom m.character))

-- a sign in front of the others, where there are any
abbrev pub sign_onto : Sign → Option (List Sign) → Option (List Sign)
sign_onto first None = None
sign_onto first (Some signs) = Some (first ∷ signs)

-- the signs of what is left, outside a class or inside one with this behind its `[` so far; none
-- where a class does not end
abbrev pub signs_from : Option (List Mark) → List Mark → Option (List Sign)
signs_from None [] = Some []
signs_from (Some body) [] = None
signs_from None (m ∷ ms) =
    if is_plain open_bracket m then signs_from (Some []) ms
    else sign_onto (sign_of m) (signs_from None ms)
signs_from (Some body) (m ∷ ms) =
    if ends_class negation body m
    then sign_onto (sign.Atom (atom.OneOf (class_of negation body))) (signs_from None ms)
    else signs_from (Some (body ++ m ∷ [])) ms
