use Rattle.std.proofs.Common.{subst}
use Rattle.collect.specs.declared.wanted.Wanted.{Wanted}
use Rattle.collect.specs.Steps.{IsTaskOf}
use Rattle.collect.proofs.Lists.{paired_next}
use Rattle.collect.proofs.tasks.defined_tasks.Goals as goal

pub loop-task-preserved : goal.loop-task-preserved
loop-task-preserved c =
    let value = c.in_ok-defined_task.ensures.value in
    rw c.in_ok-push.ensures.items (paired_next (λ w t. IsTaskOf c.args.config.now c.args.packages.now w.id t) c.args.wanted.now c.loop-task.task-index c.task-item.result c.loop-task.tasks.items c.in_ok-defined_task.field-0 c.loop-task-test.true c.loop-task.invariant
    (subst (λ (w : Wanted). IsTaskOf c.args.config.now c.args.packages.now w.id c.in_ok-defined_task.field-0) c.task-item.is value))
