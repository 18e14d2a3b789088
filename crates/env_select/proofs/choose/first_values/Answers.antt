use Rattle.std.proofs.Common.{sym, ◌∙◌, arith}
use Rattle.rel_path.proofs.Parts.{turn}
use Rattle.env_select.specs.Reach.{is_wanted}
use Rattle.env_select.proofs.Values.{chosen_wanted, chosen_unwanted}
use Rattle.env_select.proofs.choose.first_values.Goals as goal
use Rattle.env_select.proofs.choose.first_values.Goals.{then-wanted+in_ok-add_first, else-wanted}

pub loop-pair-preserved : goal.loop-pair-preserved
loop-pair-preserved c = λ name.
    let step = turn c.args.env.now c.loop-pair.pair-index c.pair-item.result (omega arith, c.pair-item.is) in
    let wanted = is_wanted c.args.reach c.args.task.now c.args.global.now in
    let before = c.loop-pair.invariant name in
    elim c.if-wanted.branch [
      | then-wanted+in_ok-add_first w ↦
          rw (w.values-is, step.0) (w.in_ok-add_first.ensures name ∙ rw before (chosen_wanted wanted _ c.pair-item.result.0 c.pair-item.result.1 name (sym c.is_wanted-wanted.ensures ∙ w.if-wanted.true)))
      | else-wanted w ↦
          rw (w.values-is, step.0) (before ∙ chosen_unwanted wanted _ c.pair-item.result.0 c.pair-item.result.1 name (sym c.is_wanted-wanted.ensures ∙ w.if-wanted.false))
    ]
