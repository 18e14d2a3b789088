use Rattle.std.proofs.Common.{◌∙◌}
use Rattle.std.specs.Cmp.Lexicographic.{lists_equiv, nat_list_eq_equiv}
use Rattle.std.proofs.lemmas.List.Filters.{dedup_is}
use Rattle.rel_path.specs.Paths.{path_cmp}
use Rattle.rel_path.proofs.PathLaws.{path_same, path_ties, path_cmp_total}
use Rattle.workspaces.proofs.Order.{sorted_once}
use Rattle.workspaces.proofs.sorted.sorted_paths.Goals as goal

pub returns-clause-value : goal.returns-clause-value
returns-clause-value c = dedup_is _ _ _ c.dedup.ensures.filtered ∙ sorted_once path_cmp path_cmp_total (lists_equiv nat_list_eq_equiv) path_ties path_same _ _ c.in_ok-sort.ensures.permutation c.in_ok-sort.ensures.sorted
