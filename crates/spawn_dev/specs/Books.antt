-- What a book says of a command.
use Rattle.std.specs.Prelude.{ℕ, ◌&&◌, min, Bool, if◌then◌else◌, List, [], ◌∷◌, ◌++◌, unwrap_or}
use Rattle.std.specs.List.{join_with_byte}
use Rattle.std.specs.BTreeMap.{insert_entry}
use Rattle.rel_path.specs.Paths.{Path, name_eq, path_cmp}
use Rattle.globs.specs.Outputs.{takes}
use Rattle.spawn_dev.specs.Effects.{Seen, no_effect}
use Rattle.spawn_dev.specs.declared.effect.Effect.{Effect}
use Rattle.spawn_dev.specs.declared.book.Piece.{Piece}
use Rattle.spawn_dev.specs.declared.book.Piece.TheVariants.{Lit, File, Env, Args, Scripts}
use Rattle.spawn_dev.specs.declared.book.Rule.{Rule}

-- the value of the first pair of the name, and nothing where there is none
abbrev pub value_of : List (List ℕ × List ℕ) → List ℕ → List ℕ
value_of [] name = []
value_of (pair ∷ pairs) name = if name_eq pair.0 name then pair.1 else value_of pairs name

-- with a newline between each two
abbrev pub joined : List (List ℕ) → List ℕ
joined texts = join_with_byte 10 texts

-- the bytes of a piece, to a command that sees this
abbrev pub piece_bytes : Seen → Piece → List ℕ
piece_bytes seen (Lit bytes) = bytes
piece_bytes seen (File path) = unwrap_or (seen.files path) []
piece_bytes seen (Env name) = value_of seen.env name
piece_bytes seen Args = joined seen.words
piece_bytes seen Scripts = joined seen.scripts

abbrev pub pieces_bytes : Seen → List Piece → List ℕ
pieces_bytes seen [] = []
pieces_bytes seen (piece ∷ pieces) = piece_bytes seen piece ++ pieces_bytes seen pieces

-- the rule is for this task
abbrev pub is_for : Seen → Rule → Bool
is_for seen rule = name_eq rule.package seen.package && name_eq rule.task seen.task

-- these files, ascending, and over them what the command writes at the paths that its task owns; a later write over an
-- earlier one
abbrev pub with_writes : Seen → List (Path × List ℕ) → List (Path × List Piece) → List (Path × List ℕ)
with_writes seen files [] = files
with_writes seen files (write ∷ writes) =
    with_writes seen (if takes seen.outs write.0 then insert_entry path_cmp files write.0 (pieces_bytes seen write.1) else files) writes

-- what the first rule for the task says, a status being a byte; status 0, no log and no files where there is none
abbrev pub effect_of : List Rule → Seen → Effect
effect_of [] seen = no_effect
effect_of (rule ∷ rules) seen =
    if is_for seen rule then record { log = pieces_bytes seen rule.log; status = min rule.status 255; files = with_writes seen [] rule.files } else effect_of rules seen
