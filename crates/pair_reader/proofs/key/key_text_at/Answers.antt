use Rattle.std.proofs.Common.{◌-◌, ◌^◌, ◌∙◌, List, Bool, Some, length, sym, ap, subst, arith}
use Rattle.std.specs.Prelude.{min}
use Rattle.cache_api.specs.Pairs.{Pair}
use Rattle.record_log.specs.Answers.{entry_of}
use Rattle.record_log.specs.Frames.{text_of}
use Rattle.record_log.specs.Log.{frames_in}
use Rattle.blob_pool.specs.Contents.{contents_of}
use Rattle.blob_pool.specs.Known.{known_in}
use Rattle.blob_pool.specs.Laws.{known_read}
use Rattle.pair_reader.specs.declared.piece.PieceAt.{PieceAt}
use Rattle.pair_reader.specs.Frames.{pair_at, contents_among}
use Rattle.pair_reader.specs.Standing.{pieces_of, bytes_of, AllShow}
use Rattle.pair_reader.specs.Answers.{text_where}
use Rattle.pair_reader.proofs.Seen.{IsSeen, known_frame, seen_pair, seen_reads}
use Rattle.pair_reader.proofs.key.key_text_at.Goals as goal

pub returns-then-not-holds-clause-len : goal.returns-then-not-holds-clause-len
returns-then-not-holds-clause-len g c told =
    let old = c.args.log.now in
    let first = c.frame_at.new.log in
    let number = c.args.number in
    let e = entry_of c.in_ok-frame.frame in
    let p = c.in_ok-pieces.pieces in
    let known = known_read old first c.in_ok-frame.ensures.log in
    let text = text_of (frames_in first) in
    let contents = contents_of (known_in first) in
    let seen : IsSeen (known_in old) number e p = record { frame = known_frame old number e c.requires.number (c.in_ok-frame.ensures.frame told); record_is = c.in_ok-pieces.ensures.record } in
    let shows = subst (AllShow text contents) (sym c.as_slice-key.ensures.value) (c.in_ok-pieces.ensures.show told).0 in
    c.length-len.ensures text contents shows
    ∙ (λ i. min (length (bytes_of (contents_of (known i)) (c.as_slice-key.ensures.value i))) (2 ^ 64 - 1))
    ∙ ap (λ (pair : Pair). min (length pair.0) (2 ^ 64 - 1)) (sym (seen_pair (known_in old) number e p seen))

pub returns-clause-len : goal.returns-clause-len
returns-clause-len g c told =
    let old = c.args.log.now in
    let first = c.frame_at.new.log in
    let number = c.args.number in
    let e = entry_of c.in_ok-frame.frame in
    let p = c.in_ok-pieces.pieces in
    let known = known_read old first c.in_ok-frame.ensures.log in
    let text = text_of (frames_in first) in
    let contents = contents_of (known_in first) in
    let seen : IsSeen (known_in old) number e p = record { frame = known_frame old number e c.requires.number (c.in_ok-frame.ensures.frame told); record_is = c.in_ok-pieces.ensures.record } in
    let shows = subst (AllShow text contents) (sym c.as_slice-key.ensures.value) (c.in_ok-pieces.ensures.show told).0 in
    c.length-len.ensures text contents shows
    ∙ (λ i. min (length (bytes_of (contents_of (known i)) (c.as_slice-key.ensures.value i))) (2 ^ 64 - 1))
    ∙ ap (λ (pair : Pair). min (length pair.0) (2 ^ 64 - 1)) (sym (seen_pair (known_in old) number e p seen))

pub returns-clause-text : goal.returns-clause-text
returns-clause-text g c told =
    let old = c.args.log.now in
    let first = c.frame_at.new.log in
    let number = c.args.number in
    let e = entry_of c.in_ok-frame.frame in
    let p = c.in_ok-pieces.pieces in
    let known = known_read old first c.in_ok-frame.ensures.log in
    let seen : IsSeen (known_in old) number e p = record { frame = known_frame old number e c.requires.number (c.in_ok-frame.ensures.frame told); record_is = c.in_ok-pieces.ensures.record } in
    let key = (λ i. bytes_of (contents_of (known i)) (c.as_slice-key.ensures.value i)) ∙ ap (λ (pair : Pair). pair.0) (sym (seen_pair (known_in old) number e p seen)) in
    let text = c.from_vec.ensures ∙ c.in_ok-text.ensures.bytes told ∙ key in
    let held = sym c.if-not-holds.false ∙ c.holds.ensures in
    (λ i. Some (text i)) ∙ ap (λ (b : Bool). text_where b (pair_at (known_in old) number).0) held

pub returns-in_err-text-clause-reads : goal.returns-in_err-text-clause-reads
returns-in_err-text-clause-reads g c told =
    let old = c.args.log.now in
    let number = c.args.number in
    let e = entry_of c.in_ok-frame.frame in
    let p = c.in_ok-pieces.pieces in
    let seen : IsSeen (known_in old) number e p = record { frame = known_frame old number e c.requires.number (c.in_ok-frame.ensures.frame told); record_is = c.in_ok-pieces.ensures.record } in
    let key = ap (λ (l : List PieceAt). contents_among (pieces_of l)) c.as_slice-key.ensures.value in
    omega (arith, key, seen_reads (known_in old) number e p seen, c.in_ok-frame.ensures.reads, c.in_err-text.ensures.reads)

pub returns-clause-reads : goal.returns-clause-reads
returns-clause-reads g c told =
    let old = c.args.log.now in
    let number = c.args.number in
    let e = entry_of c.in_ok-frame.frame in
    let p = c.in_ok-pieces.pieces in
    let seen : IsSeen (known_in old) number e p = record { frame = known_frame old number e c.requires.number (c.in_ok-frame.ensures.frame told); record_is = c.in_ok-pieces.ensures.record } in
    let key = ap (λ (l : List PieceAt). contents_among (pieces_of l)) c.as_slice-key.ensures.value in
    omega (arith, key, seen_reads (known_in old) number e p seen, c.in_ok-frame.ensures.reads, c.in_ok-text.ensures.reads)
