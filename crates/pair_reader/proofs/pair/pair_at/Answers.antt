use Rattle.std.proofs.Common.{◌∙◌, List, sym, ap, arith}
use Rattle.record_log.specs.Answers.{entry_of}
use Rattle.blob_pool.specs.Contents.{contents_of}
use Rattle.blob_pool.specs.Known.{known_in}
use Rattle.blob_pool.specs.Laws.{known_read}
use Rattle.pair_reader.specs.Standing.{pieces_of, bytes_of}
use Rattle.pair_reader.specs.Frames.{contents_among}
use Rattle.pair_reader.specs.declared.piece.PieceAt.{PieceAt}
use Rattle.pair_reader.proofs.Seen.{IsSeen, known_frame, seen_pair, seen_reads}
use Rattle.pair_reader.proofs.pair.pair_at.Goals as goal

pub returns-clause-pair : goal.returns-clause-pair
returns-clause-pair g c told =
    let old = c.args.log.now in
    let first = c.frame_at.new.log in
    let number = c.args.number in
    let e = entry_of c.in_ok-frame.frame in
    let p = c.in_ok-pieces.pieces in
    let known = known_read old first c.in_ok-frame.ensures.log in
    let known_then = known_read first c.joined.new.log c.in_ok-key.ensures.log ∙ known in
    let seen : IsSeen (known_in old) number e p = record { frame = known_frame old number e c.requires.number (c.in_ok-frame.ensures.frame told); record_is = c.in_ok-pieces.ensures.record } in
    let key = c.from_vec.ensures ∙ c.in_ok-key.ensures.bytes told ∙ (λ i. bytes_of (contents_of (known i)) (c.as_slice.ensures.value i)) in
    let value = c.from_vec-2.ensures ∙ c.in_ok-value.ensures.bytes told ∙ (λ i. bytes_of (contents_of (known_then i)) (c.as_slice-2.ensures.value i)) in
    (λ i. (key i, value i)) ∙ sym (seen_pair (known_in old) number e p seen)

pub returns-clause-reads : goal.returns-clause-reads
returns-clause-reads g c told =
    let old = c.args.log.now in
    let number = c.args.number in
    let e = entry_of c.in_ok-frame.frame in
    let p = c.in_ok-pieces.pieces in
    let seen : IsSeen (known_in old) number e p = record { frame = known_frame old number e c.requires.number (c.in_ok-frame.ensures.frame told); record_is = c.in_ok-pieces.ensures.record } in
    let key = ap (λ (l : List PieceAt). contents_among (pieces_of l)) c.as_slice.ensures.value in
    let value = ap (λ (l : List PieceAt). contents_among (pieces_of l)) c.as_slice-2.ensures.value in
    omega (arith, key, value, seen_reads (known_in old) number e p seen, c.in_ok-frame.ensures.reads, c.in_ok-key.ensures.reads, c.in_ok-value.ensures.reads)
