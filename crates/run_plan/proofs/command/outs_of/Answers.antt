use Rattle.std.proofs.Common.{◌∙◌, sym, ap, ◌++◌, ◌∷◌, []}
use Rattle.std.proofs.lemmas.Bool.{true≢false}
use Rattle.run_plan.proofs.CommandFacts.{outs-step}
use Rattle.run_plan.proofs.command.outs_of.Goals as goal
use Rattle.run_plan.proofs.command.outs_of.Goals.{then-runs+in_ok-copy+in_ok-push, else-runs}

pub loop-part-preserved : goal.loop-part-preserved
loop-part-preserved c =
    outs-step c.args.parts.now c.loop-part.part-index c.part-item.result c.loop-part.outs c.if-runs.outs c.loop-part-test.true c.part-item.is c.loop-part.invariant
    (λ k. elim c.if-runs.branch [
      | then-runs+in_ok-copy+in_ok-push w ↦ w.outs-is ∙ w.in_ok-push.ensures.pushed ∙ ap (λ x. c.loop-part.outs ++ x ∷ []) (w.in_ok-copy.ensures.value ∙ w.outs.ensures)
      | else-runs w ↦ absurd (true≢false (sym k ∙ sym c.runs.ensures ∙ w.if-runs.false))
    ])
    (λ k. elim c.if-runs.branch [
      | then-runs+in_ok-copy+in_ok-push w ↦ absurd (true≢false (sym w.if-runs.true ∙ c.runs.ensures ∙ k))
      | else-runs w ↦ w.outs-is
    ])
