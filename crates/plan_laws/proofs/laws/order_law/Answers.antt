use Rattle.plan_laws.proofs.Ordered.{one_answer}
use Rattle.plan_laws.proofs.laws.order_law.Goals as goal

pub returns : goal.returns
returns c = one_answer c.repository_law.ensures c.plan_law.ensures
