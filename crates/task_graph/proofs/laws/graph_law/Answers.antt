use Rattle.task_graph.proofs.Settled.{one_graph, one_order, no_cycle}
use Rattle.task_graph.proofs.laws.graph_law.Goals as goal

pub returns : goal.returns
returns c = record { graph = one_graph; order = one_order; cycle = no_cycle }
