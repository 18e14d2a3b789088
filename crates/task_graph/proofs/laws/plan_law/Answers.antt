use Rattle.task_graph.proofs.PlanFacts.{plan_apart, plan_inner, plan_few, plan_same, plan_ascends}
use Rattle.task_graph.proofs.laws.plan_law.Goals as goal

pub returns : goal.returns
returns c = record { apart = plan_apart; inner = plan_inner; few = plan_few; same = plan_same; ascend = plan_ascends }
