use Rattle.std.proofs.Common.{◌≡◌, take, map}
use Rattle.task_graph.proofs.Counted.{first_slot}
use Rattle.task_graph.proofs.slots.slots_of.Given as goal

abbrev pub invariant-loop-row : goal.invariant-loop-row
invariant-loop-row l = l.slots.items ≡ map first_slot (take l.row-index l.rows)
