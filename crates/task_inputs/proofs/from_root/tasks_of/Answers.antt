use Rattle.workspaces.specs.Space.{owners}
use Rattle.task_inputs.proofs.Kept.{task_next}
use Rattle.task_inputs.proofs.from_root.tasks_of.Goals as goal

pub loop-name-preserved : goal.loop-name-preserved
loop-name-preserved c =
    task_next c.args.config.now (owners c.args.packages.now) c.args.owner c.args.names.now c.loop-name.name-index c.name-item.result c.in_ok-task_of.field-0 c.loop-name.tasks.items c.add_task.new.tasks.items
    c.loop-name-test.true c.name-item.is c.loop-name.invariant c.in_ok-task_of.ensures.read c.in_ok-add_task.ensures.added
