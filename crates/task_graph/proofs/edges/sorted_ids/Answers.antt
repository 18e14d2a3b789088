use Rattle.std.proofs.Common.{◌∙◌}
use Rattle.std.proofs.lemmas.List.Filters.{dedup_is}
use Rattle.task_graph.specs.Ids.{id_cmp}
use Rattle.workspaces.proofs.Order.{sorted_once}
use Rattle.task_graph.proofs.Ids.{id_total, id_equiv, id_ties, id_same}
use Rattle.task_graph.proofs.edges.sorted_ids.Goals as goal

pub returns-clause-value : goal.returns-clause-value
returns-clause-value c = dedup_is _ _ _ c.dedup.ensures.filtered ∙ sorted_once id_cmp id_total id_equiv id_ties id_same _ _ c.in_ok-sort.ensures.permutation c.in_ok-sort.ensures.sorted
