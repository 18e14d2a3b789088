use Rattle.std.proofs.Common.{◌≡◌, drop}
use Rattle.std.specs.List.{list_any}
use Rattle.task_inputs.specs.declared.tasks.TaskGlobs.{TaskGlobs}
use Rattle.task_inputs.specs.Rooted.{far_by}
use Rattle.task_inputs.proofs.from_root.any_far.Given as goal

-- none so far
abbrev pub invariant-loop-task : goal.invariant-loop-task
invariant-loop-task l = list_any (λ (t : TaskGlobs). far_by l.home t l.path) (drop l.task-index l.tasks) ≡ list_any (λ (t : TaskGlobs). far_by l.home t l.path) l.tasks
