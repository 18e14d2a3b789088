use Rattle.task_inputs.specs.Lone.{lone_by}
use Rattle.input_entries.proofs.Added.{added}
use Rattle.task_inputs.proofs.configured.tasks_of.Goals as goal

pub loop-script-preserved : goal.loop-script-preserved
loop-script-preserved c =
    added (lone_by c.args.config.now c.args.name.now c.args.folder.now) c.args.scripts.now c.loop-script.script-index c.script-item.result c.in_ok-lone_task.field-0 c.loop-script.tasks.items _
    c.loop-script-test.true c.script-item.is c.loop-script.invariant c.in_ok-lone_task.ensures.value c.in_ok-add_task.ensures.added
