use Rattle.planner.proofs.Ending.{order_ends}
use Rattle.planner.proofs.graphing.order_of.Goals as goal

pub returns-in-Err : goal.returns-in-Err
returns-in-Err c = rw c.graph_error.ensures (order_ends c.args.graph.now c.in-Err.fault c.in-Err.ensures)
