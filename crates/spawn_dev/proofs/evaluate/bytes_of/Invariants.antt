use Rattle.std.proofs.Common.{◌≡◌, ◌++◌, drop}
use Rattle.rel_path.specs.Files.{file_at}
use Rattle.spawn_dev.specs.Books.{pieces_bytes}
use Rattle.spawn_dev.specs.Effects.{seen_by}
use Rattle.spawn_dev.proofs.evaluate.bytes_of.Given as goal

abbrev pub invariant-loop-piece : goal.invariant-loop-piece
invariant-loop-piece l =
    l.bytes.items ++ pieces_bytes (seen_by l.command (file_at l.files)) (drop l.piece-index l.pieces) ≡ pieces_bytes (seen_by l.command (file_at l.files)) l.pieces
