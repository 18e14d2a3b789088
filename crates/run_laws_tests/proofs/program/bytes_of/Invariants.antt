use Rattle.std.proofs.Common.{◌≡◌, ◌++◌, drop}
use Rattle.run_laws.specs.Clean.{seen}
use Rattle.run_laws_tests.specs.Books.{pieces_bytes}
use Rattle.run_laws_tests.proofs.program.bytes_of.Given as goal

abbrev pub invariant-loop-piece : goal.invariant-loop-piece
invariant-loop-piece l =
    l.bytes.items ++ pieces_bytes (seen l.listing l.place l.outcomes) (drop l.piece-index l.pieces) ≡ pieces_bytes (seen l.listing l.place l.outcomes) l.pieces
