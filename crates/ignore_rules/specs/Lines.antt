-- The lines of an ignore file.
use Rattle.std.specs.Prelude.{◌==◌, ℕ, Bool, List, [], ◌∷◌, length, drop, eqb, if◌then◌else◌}
use Rattle.std.specs.List.{slice_split, starts_with}
use Rattle.glob_syntax.specs.Characters.{newline, carriage_return}

-- U+FEFF in UTF-8
abbrev pub byte_order_mark : List ℕ
byte_order_mark = 239 ∷ 187 ∷ 191 ∷ []

-- the bytes behind a byte order mark in front, or all
abbrev pub behind_mark : List ℕ → List ℕ
behind_mark bytes =
    if starts_with eqb bytes byte_order_mark then drop (length byte_order_mark) bytes else bytes

abbrev pub is_newline : ℕ → Bool
is_newline b = b == newline

-- what stands between the newlines
abbrev pub lines_of : List ℕ → List (List ℕ)
lines_of bytes = slice_split is_newline bytes

-- without one carriage return at the end
abbrev pub without_return : List ℕ → List ℕ
without_return [] = []
without_return (b ∷ []) = if b == carriage_return then [] else b ∷ []
without_return (b ∷ c ∷ bs) = b ∷ without_return (c ∷ bs)
