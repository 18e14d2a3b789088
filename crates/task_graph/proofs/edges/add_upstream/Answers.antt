use Rattle.task_graph.proofs.Upstream.{edges_below, upstream_is}
use Rattle.task_graph.proofs.edges.add_upstream.Goals as goal

pub add_tasks-requires : goal.add_tasks-requires
add_tasks-requires c = rw c.as_slice.ensures (edges_below c.args.packages.now c.args.config.now c.args.«package».now c.args.name.now c.edges.result.now c.in-Some.owner c.in-Some.ensures c.edges.ensures)

pub returns-clause-added : goal.returns-clause-added
returns-clause-added c =
    let is = upstream_is c.args.packages.now c.args.config.now c.args.«package».now c.args.name.now c.edges.result.now c.in-Some.owner c.in-Some.ensures c.edges.ensures in
    rw (← is, ← c.as_slice.ensures) c.add_tasks.ensures.added
