-- The characters of a glob's text, each with its place, and whether a `\` quotes it (quoting as in POSIX pattern matching notation, Shell Command Language, section 2.13).
use Rattle.std.specs.Prelude.{◌≡◌, ◌≢◌, ◌⊎◌, ◌==◌, ◌+◌, ℕ, Bool, true, false, not, ◌&&◌, List, [], ◌∷◌, if◌then◌else◌}
use Rattle.glob_syntax.specs.declared.mark.Mark.{Mark}
use Rattle.glob_syntax.specs.Characters.{slash, backslash}

abbrev pub plain_mark : ℕ → ℕ → Mark
plain_mark at c = record { at = at; quoted = false; character = c }

abbrev pub quoted_mark : ℕ → ℕ → Mark
quoted_mark at c = record { at = at; quoted = true; character = c }

-- the characters from a place on: `\c` is the quoted character c, and a `\` at the end is itself
abbrev pub marks_of : ℕ → List ℕ → List Mark
marks_of at [] = []
marks_of at (c ∷ []) = plain_mark at c ∷ []
marks_of at (c ∷ d ∷ cs) = if c == backslash then quoted_mark at d ∷ marks_of (at + 2) cs else plain_mark at c ∷ marks_of (at + 1) (d ∷ cs)

-- this character quotes none of those that follow
abbrev pub NotQuoting : ℕ → List ℕ → Type 0
NotQuoting c cs = (c ≢ backslash) ⊎ (cs ≡ [])

-- this character, and not quoted
abbrev pub is_plain : ℕ → Mark → Bool
is_plain c mark = not mark.quoted && mark.character == c

-- a `/`, quoted or not
abbrev pub is_slash : Mark → Bool
is_slash mark = mark.character == slash
