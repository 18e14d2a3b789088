use Rattle.std.proofs.Common.{◌≡◌, ◌++◌, drop}
use Rattle.std.specs.Prelude.{find}
use Rattle.task_graph.specs.Edges.{tasks_of, is_refused}
use Rattle.task_graph.proofs.TaskLists.{or_first}
use Rattle.task_graph.proofs.edges.add_texts.Given as goal

abbrev pub invariant-loop-text : goal.invariant-loop-text
invariant-loop-text l = record {
  added : l.tasks.items ++ tasks_of l.packages l.config l.id (drop l.text-index l.texts) ≡ l.initial.tasks.items ++ tasks_of l.packages l.config l.id l.texts;
  refused : or_first l.refused (find (is_refused l.packages l.config l.id) (drop l.text-index l.texts)) ≡ find (is_refused l.packages l.config l.id) l.texts;
}
