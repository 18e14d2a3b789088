use Rattle.std.proofs.Common.{true, ◌≡◌, ◌<◌, ◌+◌, ◌-◌, ◌^◌, ℕ, List, [], ◌∷◌, ◌++◌, length, take, get_or, sym, ◌∙◌, ap, subst, arith, append_assoc}
use Rattle.record_log.specs.declared.frame.NewFrame.{NewFrame}
use Rattle.record_log.specs.declared.mark.LogMark.{LogMark}
use Rattle.record_log.specs.Kinds.{Entry, blobs, form, size, contents_after, generation_after}
use Rattle.record_log.specs.Seats.{seat_of}
use Rattle.record_log.specs.Frames.{all_formed, opened}
use Rattle.record_log.specs.Batch.{new_entry, new_entries}
use Rattle.record_log.specs.Kept.{IsIndexOf}
use Rattle.record_log.proofs.Appending.{index_push}
use Rattle.record_log.proofs.Batch.{entries_more, opened_more, opened_take, formed_at, form_of}
use Rattle.record_log.proofs.mark.LogMark.learn_all.Goals as goal

fits : (frames : List NewFrame) (i : ℕ) (d : NewFrame) (start end : ℕ) → i < length frames
    → start + length (opened (new_entries frames)) < 2 ^ 64 - 1
    → end ≡ start + length (opened (new_entries (take i frames)))
    → end + (size (new_entry (get_or frames i d)) + 1) < 2 ^ 64 - 1
fits frames i d start end lt room is = omega (arith, room, is, opened_more frames i d lt, opened_take frames (i + 1))

grown : (frames : List NewFrame) (i : ℕ) (d : NewFrame) (mark next : LogMark) (es : List Entry)
    → i < length frames → all_formed es (new_entries frames) ≡ true
    → IsIndexOf mark (es ++ new_entries (take i frames))
    → next.seats.items ≡ mark.seats.items ++ seat_of (mark.end + 1) (new_entry (get_or frames i d)) ∷ []
    → next.end ≡ mark.end + (size (new_entry (get_or frames i d)) + 1)
    → next.contents ≡ contents_after mark.contents (new_entry (get_or frames i d)).kind → ((contents : ℕ) → form contents (new_entry (get_or frames i d)) ≡ true → next.generation ≡ generation_after mark.generation (new_entry (get_or frames i d))) → IsIndexOf next (es ++ new_entries (take (i + 1) frames))
grown frames i d mark next es lt formed x seats end contents generation =
    let e = new_entry (get_or frames i d) in
    let before = es ++ new_entries (take i frames) in
    let all = index_push mark next before e x seats (end ∙ omega arith) contents (generation (blobs before) (form_of before e (formed_at frames es i d formed lt))) in
    subst (λ (l : List Entry). IsIndexOf next l) (append_assoc es (new_entries (take i frames)) (e ∷ []) ∙ ap (λ (l : List Entry). es ++ l) (sym (entries_more frames i d lt))) all

ended : (frames : List NewFrame) (i : ℕ) (d : NewFrame) (start end next : ℕ) → i < length frames
    → end ≡ start + length (opened (new_entries (take i frames)))
    → next ≡ end + (size (new_entry (get_or frames i d)) + 1)
    → next ≡ start + length (opened (new_entries (take (i + 1) frames)))
ended frames i d start end next lt is more = omega (arith, is, more, opened_more frames i d lt)

pub learn-requires : goal.learn-requires
learn-requires c = fits c.args.frames.now c.loop-frame.frame-index _ c.args.self.now.end c.loop-frame.self.end c.loop-frame-test.true c.requires c.loop-frame.invariant.end

pub loop-frame-preserved : goal.loop-frame-preserved
loop-frame-preserved c = record {
  index = λ es x formed. grown c.args.frames.now c.loop-frame.frame-index _ c.loop-frame.self c.learn.new.self es c.loop-frame-test.true formed (c.loop-frame.invariant.index es x formed) c.in_ok-learn.ensures.seats c.in_ok-learn.ensures.end c.in_ok-learn.ensures.contents c.in_ok-learn.ensures.generation;
  end = ended c.args.frames.now c.loop-frame.frame-index _ c.args.self.now.end c.loop-frame.self.end c.learn.new.self.end c.loop-frame-test.true c.loop-frame.invariant.end c.in_ok-learn.ensures.end;
  count = omega (arith, c.in_ok-learn.ensures.count);
  capacity = omega (arith, c.in_ok-learn.ensures.capacity);
}
