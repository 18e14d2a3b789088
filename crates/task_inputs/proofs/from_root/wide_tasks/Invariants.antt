use Rattle.std.proofs.Common.{◌≡◌, ◌++◌}
use Rattle.std.specs.Prelude.{filter}
use Rattle.std.specs.Vec.Iter.{into_iter_items}
use Rattle.task_inputs.specs.declared.tasks.TaskGlobs.{TaskGlobs}
use Rattle.task_inputs.specs.Facts.{is_wide_list}
use Rattle.task_inputs.proofs.from_root.wide_tasks.Given as goal

-- those so far, before those that are left
abbrev pub invariant-loop-task : goal.invariant-loop-task
invariant-loop-task l = filter (λ (t : TaskGlobs). is_wide_list t.inputs) l.fn.tasks.items ≡ l.wide.items ++ filter (λ (t : TaskGlobs). is_wide_list t.inputs) (into_iter_items l.task-iterator)
