use Rattle.std.proofs.Common.{◌≡◌, take}
use Rattle.task_graph.proofs.cycle.copied_places.Given as goal

abbrev pub invariant-loop-number : goal.invariant-loop-number
invariant-loop-number l = l.places ≡ take l.number-index l.numbers
