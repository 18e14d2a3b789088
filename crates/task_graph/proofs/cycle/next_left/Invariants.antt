use Rattle.std.proofs.Common.{◌≡◌, drop}
use Rattle.std.specs.Prelude.{find}
use Rattle.task_graph.specs.Sorting.{is_left}
use Rattle.task_graph.proofs.cycle.next_left.Given as goal

abbrev pub invariant-loop-task : goal.invariant-loop-task
invariant-loop-task l = find (is_left l.slots) (drop l.task-index l.row) ≡ find (is_left l.slots) l.row
