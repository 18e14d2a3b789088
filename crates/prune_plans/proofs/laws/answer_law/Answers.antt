use Rattle.prune_plans.proofs.Whole.{one_answer}
use Rattle.prune_plans.proofs.laws.answer_law.Goals as goal

pub returns : goal.returns
returns c = one_answer c.plan_law.ensures c.plan_law-2.ensures
