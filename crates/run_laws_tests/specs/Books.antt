-- A book given as data: what each command does, by rules.
use Rattle.std.specs.Prelude.{ℕ, ◌&&◌, Bool, if◌then◌else◌, List, [], ◌∷◌, ◌++◌, unwrap_or}
use Rattle.rel_path.specs.Paths.{Path, name_eq}
use Rattle.globs.specs.Outputs.{takes}
use Rattle.spawn_dev.specs.declared.effect.Effect.{Effect}
use Rattle.spawn_dev.specs.Effects.{Seen}
use Rattle.run_laws_tests.specs.declared.book.Piece.{Piece}
use Rattle.run_laws_tests.specs.declared.book.Piece.TheVariants.{Lit, File}
use Rattle.run_laws_tests.specs.declared.book.Write.{Write}
use Rattle.run_laws_tests.specs.declared.book.Rule.{Rule}

-- these bytes, or those that the command sees at the path
abbrev pub piece_bytes : Seen → Piece → List ℕ
piece_bytes seen (Lit bytes) = bytes
piece_bytes seen (File path) = unwrap_or (seen.files path) []

abbrev pub pieces_bytes : Seen → List Piece → List ℕ
pieces_bytes seen [] = []
pieces_bytes seen (piece ∷ pieces) = piece_bytes seen piece ++ pieces_bytes seen pieces

-- the files that the command writes, as far as its task owns them
abbrev pub files_of : Seen → List Write → List (Path × List ℕ)
files_of seen [] = []
files_of seen (write ∷ writes) = if takes seen.outs write.path then (write.path, pieces_bytes seen write.bytes.items) ∷ files_of seen writes else files_of seen writes

abbrev pub is_for : Seen → Rule → Bool
is_for seen rule = name_eq rule.package seen.package && name_eq rule.task seen.task

-- what the first rule for the task says; status 0 and nothing else where there is none
abbrev pub effect_of : List Rule → Seen → Effect
effect_of [] seen = record { log = []; status = 0; files = [] }
effect_of (rule ∷ rules) seen =
    if is_for seen rule then record { log = pieces_bytes seen rule.log.items; status = rule.status; files = files_of seen rule.files.items } else effect_of rules seen
