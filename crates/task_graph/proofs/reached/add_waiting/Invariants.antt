use Rattle.std.proofs.Common.{◌≡◌, ◌++◌, take}
use Rattle.task_graph.proofs.reached.add_waiting.Given as goal

abbrev pub invariant-loop-task : goal.invariant-loop-task
invariant-loop-task l = l.waiting.items ≡ l.initial.waiting.items ++ take l.task-index l.tasks
