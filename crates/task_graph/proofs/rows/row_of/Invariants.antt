use Rattle.std.proofs.Common.{◌≡◌, take, map, length}
use Rattle.workspaces.specs.Reach.{AreBelow}
use Rattle.task_graph.specs.Rows.{id_at}
use Rattle.task_graph.proofs.rows.row_of.Given as goal

abbrev pub invariant-loop-task : goal.invariant-loop-task
invariant-loop-task l = record {
  value : map (id_at l.nodes) l.row ≡ take l.task-index l.tasks;
  below : AreBelow (length l.nodes) l.row;
}
