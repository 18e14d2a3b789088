use Rattle.prune_plans.proofs.Whole.{planned_alike}
use Rattle.prune_plans.proofs.laws.plan_law.Goals as goal

pub returns : goal.returns
returns c = planned_alike
