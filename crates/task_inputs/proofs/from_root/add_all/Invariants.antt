use Rattle.std.proofs.Common.{◌≡◌, ◌++◌}
use Rattle.std.specs.Vec.Iter.{into_iter_items}
use Rattle.task_inputs.proofs.from_root.add_all.Given as goal

-- those so far, before those that are left
abbrev pub invariant-loop-task : goal.invariant-loop-task
invariant-loop-task l = l.initial.tasks.items ++ l.fn.more.items ≡ l.tasks.items ++ into_iter_items l.task-iterator
