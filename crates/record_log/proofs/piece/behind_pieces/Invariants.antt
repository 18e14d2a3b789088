use Rattle.std.proofs.Common.{◌≡◌, List, true}
use Rattle.codes.specs.Codes.{read_items}
use Rattle.record_log.specs.Pieces.{Piece, width, all_below, read_piece, read_pieces}
use Rattle.record_log.proofs.piece.behind_pieces.Given as goal

abbrev pub invariant-loop-left : goal.invariant-loop-left
invariant-loop-left l = record {
  found : (xs : List Piece) × (all_below l.contents xs ≡ true) × (read_pieces (width l.long) l.fn.bytes ≡ read_items (read_piece (width l.long)) xs l.left l.rest);
}

abbrev pub decreases-loop-left : goal.decreases-loop-left
decreases-loop-left l = l.left
