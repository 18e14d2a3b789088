use Rattle.prune_laws.proofs.Whole.{pruned_alike}
use Rattle.prune_laws.proofs.laws.prune_law.Goals as goal

pub returns : goal.returns
returns c = pruned_alike c.choice_law.ensures
