use Rattle.std.proofs.Common.{◌≡◌, take, map}
use Rattle.task_graph.specs.Sorting.{slot_at}
use Rattle.task_graph.proofs.plan.plan_of.Given as goal

abbrev pub invariant-loop-number : goal.invariant-loop-number
invariant-loop-number l = l.deps ≡ map (λ n. (slot_at l.slots n).places) (take l.number-index l.order)
