use Rattle.std.proofs.Common.{◌≡◌}
use Rattle.codes.specs.Codes.{read_items}
use Rattle.record_log.specs.Frames.{text_of}
use Rattle.record_log.specs.Pieces.{width, read_piece, read_pieces}
use Rattle.record_log.specs.Log.{frames_in}
use Rattle.blob_pool.specs.Contents.{contents_of}
use Rattle.blob_pool.specs.Known.{known_in, count_in}
use Rattle.pair_reader.specs.Standing.{pieces_of, AreThere, AllShow}
use Rattle.pair_reader.specs.Sources.{EndsWith}
use Rattle.pair_reader.proofs.parse.piece_list.Given as goal

abbrev pub invariant-loop-left : goal.invariant-loop-left
invariant-loop-left g l = record {
  read : read_pieces (width l.fn.source.long) l.fn.bytes
      ≡ read_items (read_piece (width l.fn.source.long)) (pieces_of l.pieces.items) l.left l.rest;
  ends : EndsWith l.fn.source l.rest;
  there : AreThere (count_in l.fn.pool) l.pieces.items;
  show : g.S.StoreDevice.tells
      → AllShow (text_of (frames_in l.fn.log)) (contents_of (known_in l.fn.log)) l.pieces.items;
}

abbrev pub decreases-loop-left : goal.decreases-loop-left
decreases-loop-left g l = l.left
