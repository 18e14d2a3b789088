use Rattle.plan_laws.proofs.Planned.{one_plan}
use Rattle.plan_laws.proofs.laws.plan_law.Goals as goal

pub returns : goal.returns
returns c = one_plan c.graph_law.ensures c.choice_law.ensures
