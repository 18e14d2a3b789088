use Rattle.std.proofs.Common.{◌≡◌, drop}
use Rattle.workspaces.specs.Edges.{has_name}
use Rattle.task_graph.proofs.persistent.has_name.Given as goal

abbrev pub invariant-loop-pair : goal.invariant-loop-pair
invariant-loop-pair l = has_name l.name (drop l.pair-index l.pair-items) ≡ has_name l.name l.pairs
