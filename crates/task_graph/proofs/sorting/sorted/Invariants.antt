use Rattle.std.proofs.Common.{◌-◌, length}
use Rattle.std.specs.Ordering.{nat_cmp}
use Rattle.std.specs.BTreeSet.{contains}
use Rattle.task_graph.proofs.Peeling.{Peels}
use Rattle.task_graph.proofs.sorting.sorted.Given as goal

abbrev pub invariant-loop-task : goal.invariant-loop-task
invariant-loop-task l = Peels l.rows l.order.items l.slots.items (contains nat_cmp l.ready)

abbrev pub decreases-loop-task : goal.decreases-loop-task
decreases-loop-task l = length l.rows - length l.order.items
