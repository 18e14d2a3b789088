use Rattle.kept_packages.specs.Steps.{AnyTaskNames}
use Rattle.kept_packages.proofs.Gains.{gains_next, tasks_splits}
use Rattle.kept_packages.proofs.Texts.{task_one}
use Rattle.kept_packages.proofs.tasks.add_tasks.Goals as goal

pub loop-task-preserved : goal.loop-task-preserved
loop-task-preserved c =
    let space = c.args.packages.now in
    let setup = c.args.config.now in
    let owner = c.args.owner.now in
    gains_next space (AnyTaskNames space setup owner) (tasks_splits space setup owner) c.args.tasks.now c.loop-task.task-index c.task-item.result c.args.found.now.items c.loop-task.found.items c.add_task.new.found.items c.loop-task-test.true c.task-item.is c.loop-task.invariant
    (task_one space setup owner c.task-item.result c.loop-task.found.items c.add_task.new.found.items c.in_ok-add_task.ensures.added)
