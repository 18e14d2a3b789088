use Rattle.workspaces.proofs.Sorting.{sorted_is}
use Rattle.workspaces.proofs.checks.sorted_packages.Goals as goal

pub returns-clause-value : goal.returns-clause-value
returns-clause-value c = sorted_is _ _ c.requires c.in_ok-sort.ensures.permutation c.in_ok-sort.ensures.sorted
