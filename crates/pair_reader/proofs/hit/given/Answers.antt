use Rattle.std.proofs.Common.{◌≡◌, ◌∙◌, Some, None, false, true, length, sym, ap, arith}
use Rattle.std.specs.Prelude.{bytes_eq}
use Rattle.cache_api.specs.Pairs.{Pair}
use Rattle.record_log.specs.Answers.{entry_of}
use Rattle.record_log.specs.Frames.{text_of}
use Rattle.record_log.specs.Log.{device_of, frames_in}
use Rattle.blob_pool.specs.Contents.{contents_of}
use Rattle.blob_pool.specs.Known.{known_in}
use Rattle.blob_pool.specs.Laws.{known_read, frames_read}
use Rattle.pair_reader.specs.Standing.{bytes_of}
use Rattle.pair_reader.proofs.Shortness.{log_short}
use Rattle.pair_reader.proofs.Seen.{IsSeen, known_frame, seen_pair, reads_key, reads_both, cost_most, cost_hit}
use Rattle.pair_reader.proofs.Finding.{found_before, gives_other, gives_none, gives_by, hit_files, hit_few, hit_ascends, whose, owns_hit}
use Rattle.pair_reader.proofs.hit.given.Goals as goal

-- ---- what is asked of the text

pub artifact_at-requires-clause-short : goal.artifact_at-requires-clause-short
artifact_at-requires-clause-short g c told =
    let log = c.are.new.log in
    let laws = g.met.S.StoreDevice in
    log_short log c.args.number told (laws.are_bytes (device_of log) told) (laws.few_bytes (device_of log) told) (omega (arith, c.requires.number, c.in_ok-frame.ensures.log.count, c.in_ok-are.ensures.log.count))

-- ---- how often is read

pub returns-in_err-are-clause-most : goal.returns-in_err-are-clause-most
returns-in_err-are-clause-most g c told =
    let old = c.args.log.now in
    let fs = known_in old in
    let number = c.args.number in
    let e = entry_of c.in_ok-frame.frame in
    let p = c.in_ok-pieces.pieces in
    let seen : IsSeen fs number e p = record { frame = known_frame old number e c.requires.number (c.in_ok-frame.ensures.frame told); record_is = c.in_ok-pieces.ensures.record } in
    cost_most fs number _ _ (reads_key fs number e p seen _ _ _ _ c.in_ok-frame.ensures.reads c.as_slice.ensures.value c.in_err-are.ensures.reads)

pub returns-then-not-branch-clause-few : goal.returns-then-not-branch-clause-few
returns-then-not-branch-clause-few g c told =
    let old = c.args.log.now in
    let fs = known_in old in
    let number = c.args.number in
    let e = entry_of c.in_ok-frame.frame in
    let p = c.in_ok-pieces.pieces in
    let seen : IsSeen fs number e p = record { frame = known_frame old number e c.requires.number (c.in_ok-frame.ensures.frame told); record_is = c.in_ok-pieces.ensures.record } in
    reads_key fs number e p seen _ _ _ _ c.in_ok-frame.ensures.reads c.as_slice.ensures.value c.in_ok-are.ensures.reads

pub returns-then-not-branch-clause-most : goal.returns-then-not-branch-clause-most
returns-then-not-branch-clause-most g c told =
    let old = c.args.log.now in
    let fs = known_in old in
    let number = c.args.number in
    let e = entry_of c.in_ok-frame.frame in
    let p = c.in_ok-pieces.pieces in
    let seen : IsSeen fs number e p = record { frame = known_frame old number e c.requires.number (c.in_ok-frame.ensures.frame told); record_is = c.in_ok-pieces.ensures.record } in
    cost_most fs number _ _ (reads_key fs number e p seen _ _ _ _ c.in_ok-frame.ensures.reads c.as_slice.ensures.value c.in_ok-are.ensures.reads)

pub returns-then-not-branch-clause-cost : goal.returns-then-not-branch-clause-cost
returns-then-not-branch-clause-cost g c told =
    let old = c.args.log.now in
    let fs = known_in old in
    let number = c.args.number in
    let e = entry_of c.in_ok-frame.frame in
    let p = c.in_ok-pieces.pieces in
    let seen : IsSeen fs number e p = record { frame = known_frame old number e c.requires.number (c.in_ok-frame.ensures.frame told); record_is = c.in_ok-pieces.ensures.record } in
    let few = reads_key fs number e p seen _ _ _ _ c.in_ok-frame.ensures.reads c.as_slice.ensures.value c.in_ok-are.ensures.reads in
    omega (arith, cost_most fs number _ _ few)

pub returns-in_err-hit-clause-few : goal.returns-in_err-hit-clause-few
returns-in_err-hit-clause-few g c told =
    let old = c.args.log.now in
    let fs = known_in old in
    let number = c.args.number in
    let e = entry_of c.in_ok-frame.frame in
    let p = c.in_ok-pieces.pieces in
    let seen : IsSeen fs number e p = record { frame = known_frame old number e c.requires.number (c.in_ok-frame.ensures.frame told); record_is = c.in_ok-pieces.ensures.record } in
    reads_both fs number e p seen _ _ _ _ _ _ c.in_ok-frame.ensures.reads c.as_slice.ensures.value c.in_ok-are.ensures.reads c.as_slice-2.ensures.value c.in_err-hit.ensures.reads

pub returns-in_err-hit-clause-most : goal.returns-in_err-hit-clause-most
returns-in_err-hit-clause-most g c told =
    let old = c.args.log.now in
    let fs = known_in old in
    let number = c.args.number in
    let e = entry_of c.in_ok-frame.frame in
    let p = c.in_ok-pieces.pieces in
    let seen : IsSeen fs number e p = record { frame = known_frame old number e c.requires.number (c.in_ok-frame.ensures.frame told); record_is = c.in_ok-pieces.ensures.record } in
    cost_most fs number _ _ (reads_both fs number e p seen _ _ _ _ _ _ c.in_ok-frame.ensures.reads c.as_slice.ensures.value c.in_ok-are.ensures.reads c.as_slice-2.ensures.value c.in_err-hit.ensures.reads)

pub returns-in_default-clause-few : goal.returns-in_default-clause-few
returns-in_default-clause-few g c told =
    let old = c.args.log.now in
    let fs = known_in old in
    let number = c.args.number in
    let e = entry_of c.in_ok-frame.frame in
    let p = c.in_ok-pieces.pieces in
    let seen : IsSeen fs number e p = record { frame = known_frame old number e c.requires.number (c.in_ok-frame.ensures.frame told); record_is = c.in_ok-pieces.ensures.record } in
    reads_both fs number e p seen _ _ _ _ _ _ c.in_ok-frame.ensures.reads c.as_slice.ensures.value c.in_ok-are.ensures.reads c.as_slice-2.ensures.value c.in_ok-hit.ensures.reads

pub returns-in_default-clause-most : goal.returns-in_default-clause-most
returns-in_default-clause-most g c told =
    let old = c.args.log.now in
    let fs = known_in old in
    let number = c.args.number in
    let e = entry_of c.in_ok-frame.frame in
    let p = c.in_ok-pieces.pieces in
    let seen : IsSeen fs number e p = record { frame = known_frame old number e c.requires.number (c.in_ok-frame.ensures.frame told); record_is = c.in_ok-pieces.ensures.record } in
    cost_most fs number _ _ (reads_both fs number e p seen _ _ _ _ _ _ c.in_ok-frame.ensures.reads c.as_slice.ensures.value c.in_ok-are.ensures.reads c.as_slice-2.ensures.value c.in_ok-hit.ensures.reads)

pub returns-in_default-clause-cost : goal.returns-in_default-clause-cost
returns-in_default-clause-cost g c told =
    let old = c.args.log.now in
    let fs = known_in old in
    let number = c.args.number in
    let e = entry_of c.in_ok-frame.frame in
    let p = c.in_ok-pieces.pieces in
    let seen : IsSeen fs number e p = record { frame = known_frame old number e c.requires.number (c.in_ok-frame.ensures.frame told); record_is = c.in_ok-pieces.ensures.record } in
    let few = reads_both fs number e p seen _ _ _ _ _ _ c.in_ok-frame.ensures.reads c.as_slice.ensures.value c.in_ok-are.ensures.reads c.as_slice-2.ensures.value c.in_ok-hit.ensures.reads in
    omega (arith, cost_most fs number _ _ few)

pub returns-then-not-owns_all-clause-few : goal.returns-then-not-owns_all-clause-few
returns-then-not-owns_all-clause-few g c told =
    let old = c.args.log.now in
    let fs = known_in old in
    let number = c.args.number in
    let e = entry_of c.in_ok-frame.frame in
    let p = c.in_ok-pieces.pieces in
    let seen : IsSeen fs number e p = record { frame = known_frame old number e c.requires.number (c.in_ok-frame.ensures.frame told); record_is = c.in_ok-pieces.ensures.record } in
    reads_both fs number e p seen _ _ _ _ _ _ c.in_ok-frame.ensures.reads c.as_slice.ensures.value c.in_ok-are.ensures.reads c.as_slice-2.ensures.value c.in_ok-hit.ensures.reads

pub returns-then-not-owns_all-clause-most : goal.returns-then-not-owns_all-clause-most
returns-then-not-owns_all-clause-most g c told =
    let old = c.args.log.now in
    let fs = known_in old in
    let number = c.args.number in
    let e = entry_of c.in_ok-frame.frame in
    let p = c.in_ok-pieces.pieces in
    let seen : IsSeen fs number e p = record { frame = known_frame old number e c.requires.number (c.in_ok-frame.ensures.frame told); record_is = c.in_ok-pieces.ensures.record } in
    cost_most fs number _ _ (reads_both fs number e p seen _ _ _ _ _ _ c.in_ok-frame.ensures.reads c.as_slice.ensures.value c.in_ok-are.ensures.reads c.as_slice-2.ensures.value c.in_ok-hit.ensures.reads)

pub returns-then-not-owns_all-clause-cost : goal.returns-then-not-owns_all-clause-cost
returns-then-not-owns_all-clause-cost g c told =
    let old = c.args.log.now in
    let fs = known_in old in
    let number = c.args.number in
    let e = entry_of c.in_ok-frame.frame in
    let p = c.in_ok-pieces.pieces in
    let seen : IsSeen fs number e p = record { frame = known_frame old number e c.requires.number (c.in_ok-frame.ensures.frame told); record_is = c.in_ok-pieces.ensures.record } in
    let few = reads_both fs number e p seen _ _ _ _ _ _ c.in_ok-frame.ensures.reads c.as_slice.ensures.value c.in_ok-are.ensures.reads c.as_slice-2.ensures.value c.in_ok-hit.ensures.reads in
    omega (arith, cost_most fs number _ _ few)

pub returns-clause-few : goal.returns-clause-few
returns-clause-few g c told =
    let old = c.args.log.now in
    let fs = known_in old in
    let number = c.args.number in
    let e = entry_of c.in_ok-frame.frame in
    let p = c.in_ok-pieces.pieces in
    let seen : IsSeen fs number e p = record { frame = known_frame old number e c.requires.number (c.in_ok-frame.ensures.frame told); record_is = c.in_ok-pieces.ensures.record } in
    reads_both fs number e p seen _ _ _ _ _ _ c.in_ok-frame.ensures.reads c.as_slice.ensures.value c.in_ok-are.ensures.reads c.as_slice-2.ensures.value c.in_ok-hit.ensures.reads

pub returns-clause-most : goal.returns-clause-most
returns-clause-most g c told =
    let old = c.args.log.now in
    let fs = known_in old in
    let number = c.args.number in
    let e = entry_of c.in_ok-frame.frame in
    let p = c.in_ok-pieces.pieces in
    let seen : IsSeen fs number e p = record { frame = known_frame old number e c.requires.number (c.in_ok-frame.ensures.frame told); record_is = c.in_ok-pieces.ensures.record } in
    cost_most fs number _ _ (reads_both fs number e p seen _ _ _ _ _ _ c.in_ok-frame.ensures.reads c.as_slice.ensures.value c.in_ok-are.ensures.reads c.as_slice-2.ensures.value c.in_ok-hit.ensures.reads)

pub returns-clause-cost : goal.returns-clause-cost
returns-clause-cost g c told =
    let old = c.args.log.now in
    let fs = known_in old in
    let number = c.args.number in
    let e = entry_of c.in_ok-frame.frame in
    let p = c.in_ok-pieces.pieces in
    let seen : IsSeen fs number e p = record { frame = known_frame old number e c.requires.number (c.in_ok-frame.ensures.frame told); record_is = c.in_ok-pieces.ensures.record } in
    let first = c.frame_at.new.log in
    let known = known_read old first c.in_ok-frame.ensures.log in
    let pair = seen_pair fs number e p seen in
    let key : c.in_ok-are.field-0 ≡ bytes_eq (bytes_of (contents_of fs) p.key.items) c.args.key.now =
    c.in_ok-are.ensures.same told ∙ (λ i. bytes_eq (bytes_of (contents_of (known i)) (c.as_slice.ensures.value i)) c.args.key.now) in
    let second = c.are.new.log in
    let known_then = known_read first second c.in_ok-are.ensures.log ∙ known in
    let frames = frames_read first second c.in_ok-are.ensures.log ∙ frames_read old first c.in_ok-frame.ensures.log in
    let found = found_before (frames_in old) (frames_in second) fs (known_in second) p.value.items c.as_slice-2.result.now (Some c.in-Some.hit) c.in_ok-hit.field-0 frames known_then c.as_slice-2.ensures.value c.in-Some.is (c.in_ok-hit.ensures.found told) in
    let files = hit_files (text_of (frames_in old)) c.in-Some.hit _ _ (ap (λ (x : Pair). x.1) pair) found.0 in
    let few = reads_both fs number e p seen _ _ _ _ _ _ c.in_ok-frame.ensures.reads c.as_slice.ensures.value c.in_ok-are.ensures.reads c.as_slice-2.ensures.value c.in_ok-hit.ensures.reads in
    cost_hit fs number e p _ _ _ (length c.in-Some.hit.files) seen few (hit_few _ _ c.in_ok-hit.field-0 c.in-Some.hit c.as_slice-2.ensures.value c.in-Some.is c.in_ok-hit.ensures.hit) files

-- ---- what the pair gives

pub returns-then-not-branch-clause-given : goal.returns-then-not-branch-clause-given
returns-then-not-branch-clause-given g c told =
    let old = c.args.log.now in
    let fs = known_in old in
    let number = c.args.number in
    let e = entry_of c.in_ok-frame.frame in
    let p = c.in_ok-pieces.pieces in
    let seen : IsSeen fs number e p = record { frame = known_frame old number e c.requires.number (c.in_ok-frame.ensures.frame told); record_is = c.in_ok-pieces.ensures.record } in
    let first = c.frame_at.new.log in
    let known = known_read old first c.in_ok-frame.ensures.log in
    let pair = seen_pair fs number e p seen in
    let key : c.in_ok-are.field-0 ≡ bytes_eq (bytes_of (contents_of fs) p.key.items) c.args.key.now =
    c.in_ok-are.ensures.same told ∙ (λ i. bytes_eq (bytes_of (contents_of (known i)) (c.as_slice.ensures.value i)) c.args.key.now) in
    gives_other c.args.outs.now c.args.key.now _ _ _ pair (sym key ∙ c.if-not-branch.true)

pub returns-in_default-clause-given : goal.returns-in_default-clause-given
returns-in_default-clause-given g c told =
    let old = c.args.log.now in
    let fs = known_in old in
    let number = c.args.number in
    let e = entry_of c.in_ok-frame.frame in
    let p = c.in_ok-pieces.pieces in
    let seen : IsSeen fs number e p = record { frame = known_frame old number e c.requires.number (c.in_ok-frame.ensures.frame told); record_is = c.in_ok-pieces.ensures.record } in
    let first = c.frame_at.new.log in
    let known = known_read old first c.in_ok-frame.ensures.log in
    let pair = seen_pair fs number e p seen in
    let key : c.in_ok-are.field-0 ≡ bytes_eq (bytes_of (contents_of fs) p.key.items) c.args.key.now =
    c.in_ok-are.ensures.same told ∙ (λ i. bytes_eq (bytes_of (contents_of (known i)) (c.as_slice.ensures.value i)) c.args.key.now) in
    let second = c.are.new.log in
    let known_then = known_read first second c.in_ok-are.ensures.log ∙ known in
    let frames = frames_read first second c.in_ok-are.ensures.log ∙ frames_read old first c.in_ok-frame.ensures.log in
    let found = found_before (frames_in old) (frames_in second) fs (known_in second) p.value.items c.as_slice-2.result.now None c.in_ok-hit.field-0 frames known_then c.as_slice-2.ensures.value c.in_default.is (c.in_ok-hit.ensures.found told) in
    gives_none c.args.outs.now c.args.key.now _ _ _ pair (sym key ∙ c.if-not-branch.false) found

pub returns-then-not-owns_all-clause-given : goal.returns-then-not-owns_all-clause-given
returns-then-not-owns_all-clause-given g c told =
    let old = c.args.log.now in
    let fs = known_in old in
    let number = c.args.number in
    let e = entry_of c.in_ok-frame.frame in
    let p = c.in_ok-pieces.pieces in
    let seen : IsSeen fs number e p = record { frame = known_frame old number e c.requires.number (c.in_ok-frame.ensures.frame told); record_is = c.in_ok-pieces.ensures.record } in
    let first = c.frame_at.new.log in
    let known = known_read old first c.in_ok-frame.ensures.log in
    let pair = seen_pair fs number e p seen in
    let key : c.in_ok-are.field-0 ≡ bytes_eq (bytes_of (contents_of fs) p.key.items) c.args.key.now =
    c.in_ok-are.ensures.same told ∙ (λ i. bytes_eq (bytes_of (contents_of (known i)) (c.as_slice.ensures.value i)) c.args.key.now) in
    let second = c.are.new.log in
    let known_then = known_read first second c.in_ok-are.ensures.log ∙ known in
    let frames = frames_read first second c.in_ok-are.ensures.log ∙ frames_read old first c.in_ok-frame.ensures.log in
    let found = found_before (frames_in old) (frames_in second) fs (known_in second) p.value.items c.as_slice-2.result.now (Some c.in-Some.hit) c.in_ok-hit.field-0 frames known_then c.as_slice-2.ensures.value c.in-Some.is (c.in_ok-hit.ensures.found told) in
    gives_by false (text_of (frames_in old)) c.in-Some.hit c.args.outs.now c.args.key.now _ _ _ pair (sym key ∙ c.if-not-branch.false) found.0 (whose c.args.outs.now c.in-Some.hit _ _ c.as_slice-3.ensures c.owns_all.ensures ∙ c.if-not-owns_all.true)

pub returns-clause-given : goal.returns-clause-given
returns-clause-given g c told =
    let old = c.args.log.now in
    let fs = known_in old in
    let number = c.args.number in
    let e = entry_of c.in_ok-frame.frame in
    let p = c.in_ok-pieces.pieces in
    let seen : IsSeen fs number e p = record { frame = known_frame old number e c.requires.number (c.in_ok-frame.ensures.frame told); record_is = c.in_ok-pieces.ensures.record } in
    let first = c.frame_at.new.log in
    let known = known_read old first c.in_ok-frame.ensures.log in
    let pair = seen_pair fs number e p seen in
    let key : c.in_ok-are.field-0 ≡ bytes_eq (bytes_of (contents_of fs) p.key.items) c.args.key.now =
    c.in_ok-are.ensures.same told ∙ (λ i. bytes_eq (bytes_of (contents_of (known i)) (c.as_slice.ensures.value i)) c.args.key.now) in
    let second = c.are.new.log in
    let known_then = known_read first second c.in_ok-are.ensures.log ∙ known in
    let frames = frames_read first second c.in_ok-are.ensures.log ∙ frames_read old first c.in_ok-frame.ensures.log in
    let found = found_before (frames_in old) (frames_in second) fs (known_in second) p.value.items c.as_slice-2.result.now (Some c.in-Some.hit) c.in_ok-hit.field-0 frames known_then c.as_slice-2.ensures.value c.in-Some.is (c.in_ok-hit.ensures.found told) in
    gives_by true (text_of (frames_in old)) c.in-Some.hit c.args.outs.now c.args.key.now _ _ _ pair (sym key ∙ c.if-not-branch.false) found.0 (whose c.args.outs.now c.in-Some.hit _ _ c.as_slice-3.ensures c.owns_all.ensures ∙ c.if-not-owns_all.false)

pub returns-clause-within : goal.returns-clause-within
returns-clause-within g c told =
    let old = c.args.log.now in
    let fs = known_in old in
    let number = c.args.number in
    let e = entry_of c.in_ok-frame.frame in
    let p = c.in_ok-pieces.pieces in
    let seen : IsSeen fs number e p = record { frame = known_frame old number e c.requires.number (c.in_ok-frame.ensures.frame told); record_is = c.in_ok-pieces.ensures.record } in
    let first = c.frame_at.new.log in
    let known = known_read old first c.in_ok-frame.ensures.log in
    let pair = seen_pair fs number e p seen in
    let key : c.in_ok-are.field-0 ≡ bytes_eq (bytes_of (contents_of fs) p.key.items) c.args.key.now =
    c.in_ok-are.ensures.same told ∙ (λ i. bytes_eq (bytes_of (contents_of (known i)) (c.as_slice.ensures.value i)) c.args.key.now) in
    let second = c.are.new.log in
    let known_then = known_read first second c.in_ok-are.ensures.log ∙ known in
    let frames = frames_read first second c.in_ok-are.ensures.log ∙ frames_read old first c.in_ok-frame.ensures.log in
    let found = found_before (frames_in old) (frames_in second) fs (known_in second) p.value.items c.as_slice-2.result.now (Some c.in-Some.hit) c.in_ok-hit.field-0 frames known_then c.as_slice-2.ensures.value c.in-Some.is (c.in_ok-hit.ensures.found told) in
    record { log = found.1.log; files = found.1.files }

pub returns-clause-fits : goal.returns-clause-fits
returns-clause-fits g c =
    let hit = c.in-Some.hit in
    let owns = owns_hit c.args.outs.now hit ∙ whose c.args.outs.now hit _ _ c.as_slice-3.ensures c.owns_all.ensures ∙ c.if-not-owns_all.false in
    (hit_ascends _ c.in_ok-hit.field-0 hit c.in-Some.is c.in_ok-hit.ensures.hit, owns)
