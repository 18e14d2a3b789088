use Rattle.std.proofs.Common.{◌∙◌, ap}
use Rattle.std.specs.Prelude.{map}
use Rattle.task_inputs.specs.Lone.{as_configured}
use Rattle.task_inputs.proofs.Lone.{lone_configured, lone_home}
use Rattle.task_inputs.proofs.configured.OwnerTasks.new.Goals as goal

pub invariant_of-result : goal.invariant_of-result
invariant_of-result c = rw (c.in_ok-folder.ensures.value, c.in_ok-tasks.ensures.value) (lone_home c.args.config.now c.args.name.now c.args.folder.now c.args.scripts.now)

pub returns-clause-value : goal.returns-clause-value
returns-clause-value c =
    let tasks = ap (map as_configured) c.in_ok-tasks.ensures.value ∙ lone_configured c.args.config.now c.args.name.now c.args.folder.now c.args.scripts.now in
    let folder = c.in_ok-folder.ensures.value in
    cc
