use Rattle.std.proofs.Common.{length, sym, ap, arith}
use Rattle.record_log.specs.Frames.{text_of}
use Rattle.record_log.specs.Log.{frames_in}
use Rattle.blob_pool.specs.Contents.{contents_of}
use Rattle.blob_pool.specs.Known.{known_in, count_in}
use Rattle.blob_pool.specs.Laws.{known_read}
use Rattle.pair_reader.specs.Standing.{bytes_of}
use Rattle.pair_reader.proofs.Going.{walks_next, shows_rest}
use Rattle.pair_reader.proofs.Comparing.{not_eq, eq_step, eq_not, rest_none, rest_some}
use Rattle.pair_reader.proofs.compare.are.Goals as goal

pub returns-then-length-bytes-clause-same : goal.returns-then-length-bytes-clause-same
returns-then-length-bytes-clause-same g c told =
    let log = c.args.log.now in
    let contents = contents_of (known_in log) in
    let len = c.length.ensures (text_of (frames_in log)) contents (c.requires.show told) in
    sym (not_eq (bytes_of contents c.args.pieces.now) c.args.bytes.now (λ same. c.if-length-bytes.true (omega (arith, len, ap length same))))

pub returns-in_default-clause-same : goal.returns-in_default-clause-same
returns-in_default-clause-same g c told =
    let old = c.args.log.now in
    let mid = c.loop-piece.log in
    let walks = c.loop-piece.invariant.walks in
    eq_not (known_in old) (known_in mid) c.args.pieces.now c.loop-piece.piece-index _ c.loop-piece.left.now _ c.loop-piece-test.true (known_read old mid walks.log)
    (rest_none _ _ _ c.in_default.is (c.in_ok-behind.ensures.rest told)) (c.loop-piece.invariant.same told)

pub loop-piece-preserved : goal.loop-piece-preserved
loop-piece-preserved g c =
    let old = c.args.log.now in
    let mid = c.loop-piece.log in
    let pieces = c.args.pieces.now in
    let i = c.loop-piece.piece-index in
    let before = c.loop-piece.invariant in
    let stripped = c.in_ok-behind.ensures in
    record {
      walks = walks_next (count_in c.args.pool.now) pieces i _ old mid c.strip.new.log c.loop-piece-test.true before.walks stripped.log stripped.cause.counted stripped.reads;
      shows = λ told. shows_rest _ _ pieces i c.loop-piece-test.true (before.shows told);
      same = λ told. eq_step (known_in old) (known_in mid) pieces i _ c.loop-piece.left.now _ _ c.loop-piece-test.true (known_read old mid before.walks.log)
          (rest_some _ _ _ _ c.in-Some.is (stripped.rest told)) (before.same told);
    }
