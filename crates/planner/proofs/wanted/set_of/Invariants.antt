use Rattle.std.proofs.Common.{◌≡◌}
use Rattle.turbo_config.specs.declared.task_id.TaskId.{TaskId}
use Rattle.task_graph.specs.Ids.{has}
use Rattle.planner.proofs.wanted.set_of.Given as goal

abbrev pub invariant-loop-task : goal.invariant-loop-task
invariant-loop-task l = (id : TaskId) → has l.set.keys id ≡ has l.yielded id
