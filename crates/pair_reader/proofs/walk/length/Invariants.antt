use Rattle.std.proofs.Common.{List, ℕ, drop}
use Rattle.pair_reader.specs.Standing.{AllShow}
use Rattle.pair_reader.proofs.Going.{Counts}
use Rattle.pair_reader.proofs.walk.length.Given as goal

abbrev pub invariant-loop-piece : goal.invariant-loop-piece
invariant-loop-piece l =
    (text : List ℕ) (contents : List (List ℕ)) → AllShow text contents l.pieces
    → Counts text contents l.pieces (drop l.piece-index l.pieces) l.len
