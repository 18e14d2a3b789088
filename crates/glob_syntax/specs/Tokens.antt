-- A glob's characters as tokens (pattern matching notation of POSIX, Shell Command Language, section 2.13; braces as in the brace expansion of shells).
use Rattle.std.specs.Prelude.{◌==◌, ℕ, Bool, true, false, ◌&&◌, ◌||◌, List, [], ◌∷◌, ◌++◌, Option, Some, None, if◌then◌else◌}
use Rattle.glob_syntax.specs.declared.mark.Mark.{Mark}
use Rattle.glob_syntax.specs.declared.atom.Class.{Class}
use Rattle.glob_syntax.specs.declared.atom.Atom.{Atom}
use Rattle.glob_syntax.specs.declared.atom.Atom.TheVariants as atom
use Rattle.glob_syntax.specs.declared.token.Sign.{Sign}
use Rattle.glob_syntax.specs.declared.token.Sign.TheVariants as sign
use Rattle.glob_syntax.specs.declared.token.Token.{Token}
use Rattle.glob_syntax.specs.declared.class.Negation.TheVariants.{ExclamationMark}
use Rattle.glob_syntax.specs.Characters.{asterisk, comma, period, question_mark, open_bracket, close_bracket, open_brace, close_brace}
use Rattle.glob_syntax.specs.Marks.{is_plain, is_slash}
use Rattle.glob_syntax.specs.Classes.{ends_class, class_of}
use Rattle.glob_syntax.specs.Atoms.{is_star}

-- ---- classes, of which a first `!` negates

-- this is the `]` that ends the class
abbrev pub ends : List Mark → Mark → Bool
ends body m = ends_class ExclamationMark body m

-- the class with this behind its `[` so far comes to its end before a `/` or the end of the text
abbrev pub closes : List Mark → List Mark → Bool
closes body [] = false
closes body (m ∷ ms) = if is_slash m then false else (if ends body m then true else closes (body ++ m ∷ []) ms)

-- a `]` comes before a `/`
abbrev pub has_end : List Mark → Bool
has_end [] = false
has_end (m ∷ ms) = if is_slash m then false else (is_plain close_bracket m || has_end ms)

-- ---- tokens

abbrev pub plain_sign : ℕ → Sign
plain_sign c =
    if c == open_brace then sign.Open else
    (if c == close_brace then sign.Close else
    (if c == comma then sign.Comma else
    (if c == open_bracket then sign.OpenClass else
    (if c == asterisk then sign.Atom atom.Star else
    (if c == question_mark then sign.Atom atom.One else sign.Atom (atom.Char c))))))

-- what a character says that begins no class: a `/` separates, also where it is quoted, and every other quoted character is itself
abbrev pub sign_of : Mark → Sign
sign_of m = if is_slash m then sign.Slash else (if m.quoted then sign.Atom (atom.Char m.character) else plain_sign m.character)

abbrev pub token_with : ℕ → Sign → Token
token_with at says = record { at = at; sign = says }

abbrev pub token_of : Mark → Token
token_of m = token_with m.at (sign_of m)

abbrev pub class_token : ℕ → Class → Token
class_token at class = token_with at (sign.Atom (atom.OneOf class))

-- the tokens of what is left, outside a class or inside the one that began at a place, with this behind its `[` so far
abbrev pub tokens_of : Option (ℕ × List Mark) → List Mark → List Token
tokens_of class [] = []
tokens_of None (m ∷ ms) = if is_plain open_bracket m && closes [] ms then tokens_of (Some (m.at, [])) ms else token_of m ∷ tokens_of None ms
tokens_of (Some (at, body)) (m ∷ ms) = if ends body m then class_token at (class_of ExclamationMark body) ∷ tokens_of None ms else tokens_of (Some (at, body ++ m ∷ [])) ms

abbrev pub is_slash_sign : Sign → Bool
is_slash_sign sign.Slash = true
is_slash_sign other = false

abbrev pub is_dot_atom : Atom → Bool
is_dot_atom (atom.Char c) = c == period
is_dot_atom other = false

-- the character `.`, quoted or not
abbrev pub is_dot : Sign → Bool
is_dot (sign.Atom atom) = is_dot_atom atom
is_dot other = false

abbrev pub is_star_sign : Sign → Bool
is_star_sign (sign.Atom atom) = is_star atom
is_star_sign other = false
