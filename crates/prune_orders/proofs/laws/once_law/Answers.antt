-- By the four reasons.
use Rattle.prune_orders.proofs.Once.{one_reason, never_pruned}
use Rattle.prune_orders.proofs.laws.once_law.Goals as goal

pub returns : goal.returns
returns c = record { one = one_reason; none = never_pruned }
