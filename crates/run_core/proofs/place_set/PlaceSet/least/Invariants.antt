use Rattle.std.proofs.Common.{◌-◌, ◌*◌, ◌<◌, ◌≤◌}
use Rattle.run_core.proofs.Nodes.{IsFirst}
use Rattle.run_core.proofs.place_set.PlaceSet.least.Given as goal

abbrev pub invariant-loop-node : goal.invariant-loop-node
invariant-loop-node l = record {
  above : 1 ≤ l.node;
  below : l.node < 2 * l.self-inside.leaves;
  first : IsFirst l.self-inside.flags.items l.self-inside.leaves l.node;
}

abbrev pub decreases-loop-node : goal.decreases-loop-node
decreases-loop-node l = 2 * l.self-inside.leaves - l.node
