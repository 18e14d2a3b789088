use Rattle.task_graph.proofs.Fronts.{Reaching}
use Rattle.task_graph.proofs.reached.reached.Given as goal

abbrev pub invariant-loop-turn : goal.invariant-loop-turn
invariant-loop-turn l = Reaching l.packages l.config l.fn.starts l.front.rows.entries l.front.waiting.items
