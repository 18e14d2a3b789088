use Rattle.std.proofs.Common.{◌≡◌}
use Rattle.std.specs.Vec.Iter.{into_iter_items}
use Rattle.task_graph.specs.Fronts.{nodes_by}
use Rattle.task_graph.proofs.Answered.{and_then}
use Rattle.task_graph.proofs.expansion.nodes_of.Given as goal

abbrev pub invariant-loop-id : goal.invariant-loop-id
invariant-loop-id l = and_then l.nodes.items (nodes_by (into_iter_items l.id-iterator)) ≡ nodes_by l.fn.rows.items
