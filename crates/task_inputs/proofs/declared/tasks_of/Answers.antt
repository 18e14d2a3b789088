use Rattle.std.proofs.Common.{◌∙◌, ap}
use Rattle.task_inputs.proofs.Homes.{made_of}
use Rattle.task_inputs.proofs.declared.tasks_of.Goals as goal

pub returns-clause-value : goal.returns-clause-value
returns-clause-value c = made_of c.args.config.now c.args.packages.now c.args.owner c.folder-folder.result.now c.name-name.result.now c.as_slice-scripts.result.now c.new.result
    c.folder-folder.ensures c.name-name.ensures (λ d. c.as_slice-scripts.ensures ∙ ap (λ m. m.scripts) (c.manifest.ensures d)) c.new.ensures.value
