use Rattle.std.proofs.Common.{◌≡◌, ◌+◌, ℕ, List, [], ◌∷◌, ◌++◌, ◌<◌, length, take, get_or, sym, ◌∙◌, ap}
use Rattle.std.proofs.lemmas.List.{map_more}
use Rattle.record_log.specs.declared.frame.NewFrame.{NewFrame}
use Rattle.record_log.specs.Frames.{opened}
use Rattle.record_log.specs.Batch.{new_entry, new_entries}
use Rattle.record_log.specs.Kinds.{text}
use Rattle.record_log.proofs.Batch.{each_at, opened_one}
use Rattle.record_log.proofs.frame.opened_bytes.Goals as goal

one_more : (frames : List NewFrame) (i : ℕ) (d : NewFrame) (old mid new : List ℕ)
    → i < length frames → old ≡ opened (new_entries (take i frames)) → mid ≡ old ++ 1 ∷ []
    → new ≡ mid ++ text (new_entry (get_or frames i d))
    → new ≡ opened (new_entries (take (i + 1) frames))
one_more frames i d old mid new lt was gate body =
    body ∙ (λ j. (gate ∙ ap (λ (l : List ℕ). l ++ 1 ∷ []) was) j ++ text (new_entry (get_or frames i d)))
    ∙ sym (opened_one (new_entries (take i frames)) (new_entry (get_or frames i d)))
    ∙ ap opened (sym (map_more new_entry frames i d lt))

pub put_text-requires-clause-key_len : goal.put_text-requires-clause-key_len
put_text-requires-clause-key_len c = (each_at c.args.frames.now c.loop-frame.frame-index _ c.requires c.loop-frame-test.true).0

pub put_text-requires-clause-value_len : goal.put_text-requires-clause-value_len
put_text-requires-clause-value_len c = (each_at c.args.frames.now c.loop-frame.frame-index _ c.requires c.loop-frame-test.true).1

pub loop-frame-preserved : goal.loop-frame-preserved
loop-frame-preserved c = record { written = one_more c.args.frames.now c.loop-frame.frame-index _ c.loop-frame.bytes.items c.push.new.self.items c.put_text.new.to.items c.loop-frame-test.true c.loop-frame.invariant.written c.in_ok-push.ensures.items c.in_ok-put_text.ensures }
