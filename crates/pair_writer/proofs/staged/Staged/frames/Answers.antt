use Rattle.std.proofs.Common.{[], ◌∷◌, ◌++◌, sym, ◌∙◌, ap, arith}
use Rattle.std.proofs.lemmas.List.{map-append}
use Rattle.record_log.specs.Batch.{new_entry, new_entries}
use Rattle.pair_writer.proofs.Holding.{entries_more}
use Rattle.pair_writer.proofs.staged.Staged.frames.Goals as goal

pub loop-frame-preserved : goal.loop-frame-preserved
loop-frame-preserved c =
    let n = c.loop-frame.frame-index in
    let all = c.as_slice-staged.result.now in
    let more = entries_more all n c.frame-item.result (omega arith, c.frame-item.is) in
    let was = c.loop-frame.frames.items in
    ap new_entries c.in_ok-push.ensures.items
    ∙ map-append new_entry was (c.as_new.result ∷ [])
    ∙ (λ i. c.loop-frame.invariant i ++ c.as_new.ensures i ∷ [])
    ∙ sym more
