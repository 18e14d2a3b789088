use Rattle.std.proofs.Common.{◌≡◌, ◌+◌, ◌-◌, ◌^◌, ◌<◌, ℕ, List, [], ◌∷◌, ◌++◌, length, take, get_or, ap, arith}
use Rattle.std.specs.Prelude.{min}
use Rattle.std.proofs.lemmas.List.{map_more}
use Rattle.record_log.specs.declared.frame.NewFrame.{NewFrame}
use Rattle.record_log.specs.Kinds.{Entry, room_for}
use Rattle.record_log.specs.Frames.{opened}
use Rattle.record_log.specs.Batch.{new_entry, new_entries, room_for_all}
use Rattle.record_log.proofs.Batch.{length-opened_one}
use Rattle.record_log.proofs.frame.need_of_all.Goals as goal

one_more : (frames : List NewFrame) (i : ℕ) (d : NewFrame) (need one new : ℕ) → i < length frames
    → need ≡ room_for_all (new_entries (take i frames))
    → one ≡ room_for (new_entry (get_or frames i d)) → new ≡ min (need + one) (2 ^ 64 - 1)
    → new ≡ room_for_all (new_entries (take (i + 1) frames))
one_more frames i d need one new lt was takes is =
    let len = length-opened_one (new_entries (take i frames)) (new_entry (get_or frames i d)) in
    let more : length (opened (new_entries (take (i + 1) frames))) ≡ length (opened (new_entries (take i frames) ++ new_entry (get_or frames i d) ∷ [])) = ap (λ (es : List Entry). length (opened es)) (map_more new_entry frames i d lt) in
    omega (arith, was, takes, is, len, more)

pub loop-frame-preserved : goal.loop-frame-preserved
loop-frame-preserved c = record { sum = one_more c.args.frames.now c.loop-frame.frame-index _ c.loop-frame.need c.need_of.result c.saturating_add-need.result c.loop-frame-test.true c.loop-frame.invariant.sum c.need_of.ensures c.saturating_add-need.ensures }
