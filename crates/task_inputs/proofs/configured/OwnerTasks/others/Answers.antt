use Rattle.std.proofs.Common.{◌≡◌, ◌∙◌, ap}
use Rattle.task_inputs.specs.Homes.{Home, others_than}
use Rattle.task_inputs.specs.Lone.{rest_of}
use Rattle.task_inputs.proofs.Lone.{others_of}
use Rattle.task_inputs.proofs.configured.OwnerTasks.others.Goals as goal

pub returns-clause-value : goal.returns-clause-value
returns-clause-value c =
    let same : rest_of c.args.task.now c.tasks.result.now ≡ others_than c.args.task.now c.args.self.now.tasks = others_of c.args.task.now c.tasks.result.now ∙ ap (λ (h : Home). others_than c.args.task.now h.tasks) c.tasks.ensures.home in
    rw (← same) c.outputs_but.ensures.value
