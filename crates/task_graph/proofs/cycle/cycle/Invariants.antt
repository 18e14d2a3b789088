use Rattle.workspaces.specs.Marks.{unmarked}
use Rattle.task_graph.specs.Sorting.{is_left}
use Rattle.task_graph.proofs.Walking.{OnWay}
use Rattle.task_graph.proofs.cycle.cycle.Given as goal

abbrev pub invariant-loop-next : goal.invariant-loop-next
invariant-loop-next l = OnWay l.rows (is_left l.slots) l.path.items l.seen.items l.next

abbrev pub decreases-loop-next : goal.decreases-loop-next
decreases-loop-next l = unmarked l.seen.items
