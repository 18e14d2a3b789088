use Rattle.prune_plans.proofs.Whole.{of_files}
use Rattle.prune_plans.proofs.laws.files_law.Goals as goal

pub returns : goal.returns
returns c = of_files c.plan_law.ensures c.reading_law.ensures c.order_law.ensures
