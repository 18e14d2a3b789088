use Rattle.std.proofs.Common.{◌≡◌, ◌<◌, ℕ, false}
use Rattle.task_graph.specs.Sorting.{is_left}
use Rattle.task_graph.proofs.cycle.first_left.Given as goal

abbrev pub invariant-loop-task : goal.invariant-loop-task
invariant-loop-task l = (n : ℕ) → n < l.task → is_left l.slots n ≡ false
