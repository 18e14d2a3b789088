use Rattle.std.proofs.Common.{◌∙◌}
use Rattle.std.specs.Ordering.{nat_cmp}
use Rattle.std.specs.Cmp.{nat_eq_equiv, unsigned_ties}
use Rattle.std.proofs.lemmas.Cmp.{nat_cmp_total}
use Rattle.std.proofs.lemmas.List.Filters.{dedup_is}
use Rattle.workspaces.proofs.Order.{sorted_once}
use Rattle.workspaces.proofs.Lists.{nat_same}
use Rattle.workspaces.proofs.sorted.sorted_numbers.Goals as goal

pub returns-clause-value : goal.returns-clause-value
returns-clause-value c = dedup_is _ _ _ c.dedup.ensures.filtered ∙ sorted_once nat_cmp nat_cmp_total nat_eq_equiv unsigned_ties nat_same _ _ c.in_ok-sort.ensures.permutation c.in_ok-sort.ensures.sorted
