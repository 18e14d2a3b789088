use Rattle.planner.proofs.Ending.{graph_ends}
use Rattle.planner.proofs.graphing.expansion_of.Goals as goal

pub returns-in-Err-clause-graph : goal.returns-in-Err-clause-graph
returns-in-Err-clause-graph c = rw c.graph_error.ensures (graph_ends c.args.packages.now c.args.config.now c.args.selected.now c.args.all c.args.words.now c.in-Err.fault c.in-Err.ensures)
