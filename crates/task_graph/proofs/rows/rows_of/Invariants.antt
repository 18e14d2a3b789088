use Rattle.std.proofs.Common.{◌≡◌, length, take, map}
use Rattle.std.specs.List.{AllByRecursion}
use Rattle.workspaces.specs.Reach.{AreBelow}
use Rattle.task_graph.specs.declared.node.Node.{Node}
use Rattle.task_graph.specs.Rows.{id_at}
use Rattle.task_graph.proofs.rows.rows_of.Given as goal

abbrev pub invariant-loop-node : goal.invariant-loop-node
invariant-loop-node l = record {
  count : length l.rows.items ≡ l.node-index;
  deps : map (map (id_at l.nodes)) l.rows.items ≡ map (λ (n : Node). n.deps) (take l.node-index l.nodes);
  below : AllByRecursion (AreBelow (length l.nodes)) l.rows.items;
}
