use Rattle.std.proofs.Common.{◌≡◌, drop}
use Rattle.std.specs.Prelude.{bytes_eq}
use Rattle.record_log.specs.Frames.{text_of}
use Rattle.record_log.specs.Log.{frames_in}
use Rattle.blob_pool.specs.Contents.{contents_of}
use Rattle.blob_pool.specs.Known.{known_in, count_in}
use Rattle.pair_reader.specs.Standing.{bytes_of, AllShow}
use Rattle.pair_reader.proofs.Going.{Walks}
use Rattle.pair_reader.proofs.compare.are.Given as goal

abbrev pub invariant-loop-piece : goal.invariant-loop-piece
invariant-loop-piece g l = record {
  walks : Walks (count_in l.fn.pool) l.pieces (drop l.piece-index l.pieces) l.fn.log l.log;
  shows : g.S.StoreDevice.tells
      → AllShow (text_of (frames_in l.fn.log)) (contents_of (known_in l.fn.log))
      (drop l.piece-index l.pieces);
  same : g.S.StoreDevice.tells
      → let contents = contents_of (known_in l.fn.log) in
      bytes_eq (bytes_of contents l.pieces) l.fn.bytes
      ≡ bytes_eq (bytes_of contents (drop l.piece-index l.pieces)) l.left;
}
