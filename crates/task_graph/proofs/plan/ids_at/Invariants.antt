use Rattle.std.proofs.Common.{◌≡◌, take, map}
use Rattle.task_graph.specs.Rows.{id_at}
use Rattle.task_graph.proofs.plan.ids_at.Given as goal

abbrev pub invariant-loop-number : goal.invariant-loop-number
invariant-loop-number l = l.ids ≡ map (id_at l.nodes) (take l.number-index l.numbers)
