use Rattle.std.proofs.Common.{◌∙◌}
use Rattle.std.specs.Cmp.Lexicographic.{nat_list_cmp_total, nat_list_eq_equiv, texts_ties}
use Rattle.std.proofs.lemmas.List.Filters.{dedup_is}
use Rattle.rel_path.specs.Paths.{name_cmp}
use Rattle.rel_path.proofs.PathLaws.{name_same}
use Rattle.workspaces.proofs.Order.{sorted_once}
use Rattle.workspaces.proofs.sorted.sorted_texts.Goals as goal

pub returns-clause-value : goal.returns-clause-value
returns-clause-value c = dedup_is _ _ _ c.dedup.ensures.filtered ∙ sorted_once name_cmp nat_list_cmp_total nat_list_eq_equiv texts_ties name_same _ _ c.in_ok-sort.ensures.permutation c.in_ok-sort.ensures.sorted
