use Rattle.std.proofs.Common.{◌∙◌, ap}
use Rattle.std.specs.List.{list_any}
use Rattle.globs.specs.Outputs.{declares}
use Rattle.task_inputs.specs.Homes.{Home}
use Rattle.task_inputs.proofs.Lone.{lone_declares}
use Rattle.task_inputs.proofs.configured.OwnerTasks.declares.Goals as goal

pub returns : goal.returns
returns c =
    let path = c.args.path.now in let folder = c.args.self.now.folder in
    c.is_declared_by.ensures ∙ lone_declares folder path c.tasks.result.now c.tasks.ensures.lone ∙ ap (λ (h : Home). list_any (λ t. declares t.outputs folder path) h.tasks) c.tasks.ensures.home
