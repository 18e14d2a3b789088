use Rattle.std.proofs.lemmas.List.Sorted.{IsNonDecreasingBy-from_sort}
use Rattle.store_bench.proofs.results.in_order.Goals as goal

pub returns : goal.returns
returns c = record { ascend = λ i j. IsNonDecreasingBy-from_sort (λ n. n) _ c.in_ok-sort.ensures.sorted i j 0 }
