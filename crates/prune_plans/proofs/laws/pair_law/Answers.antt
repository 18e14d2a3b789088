use Rattle.prune_plans.proofs.Whole.{paired}
use Rattle.prune_plans.proofs.laws.pair_law.Goals as goal

pub returns : goal.returns
returns c = paired c.answer_law.ensures
