use Rattle.std.proofs.Common.{◌≡◌, drop}
use Rattle.std.specs.Prelude.{find}
use Rattle.task_graph.specs.Nodes.{ids_of}
use Rattle.task_graph.specs.Persistent.{is_persistent}
use Rattle.task_graph.proofs.graph.Graph.persistent.Given as goal

abbrev pub invariant-loop-node : goal.invariant-loop-node
invariant-loop-node l = find (is_persistent l.packages l.config) (ids_of (drop l.node-index l.node-items)) ≡ find (is_persistent l.packages l.config) (ids_of l.self)
