-- What bytes mean as a JSON text (RFC 8259), with one byte order mark in front read over.
use Rattle.std.specs.Prelude.{ℕ, List, [], ◌∷◌, drop, length, Option, None, if◌then◌else◌, eqb}
use Rattle.std.specs.List.{starts_with}
use Rattle.std.specs.Str.{is_utf8}
use Rattle.serde_json.specs.Data.{Data}
use Rattle.serde_json.specs.Read.{read}

-- the byte order mark in UTF-8
abbrev pub mark : List ℕ
mark = 239 ∷ 187 ∷ 191 ∷ []

-- the bytes behind a mark in front, or all
abbrev pub behind_mark : List ℕ → List ℕ
behind_mark bytes = if starts_with eqb bytes mark then drop (length mark) bytes else bytes

-- the value that the bytes write: they are UTF-8 and read as JSON
unfoldable pub reading : List ℕ → Option Data
reading bytes = if is_utf8 (behind_mark bytes) then read (behind_mark bytes) else None
