use Rattle.std.proofs.Common.{◌≡◌, length}
use Rattle.task_graph.specs.Ways.{from_first}
use Rattle.task_graph.proofs.cycle.from_first.Given as goal

abbrev pub invariant-loop-first : goal.invariant-loop-first
invariant-loop-first l = from_first l.task l.rest ≡ from_first l.task l.path

abbrev pub decreases-loop-first : goal.decreases-loop-first
decreases-loop-first l = length l.rest
