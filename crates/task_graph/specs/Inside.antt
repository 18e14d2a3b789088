-- What holds of every task graph.
use Rattle.std.specs.Prelude.{◌≡◌, ◌<◌, ◌^◌, true, List, length}
use Rattle.std.specs.List.{AllByRecursion}
use Rattle.std.specs.List.Sorted.{IsStrictlySortedBy}
use Rattle.task_graph.specs.declared.node.Node.{Node}
use Rattle.task_graph.specs.Ids.{id_cmp}
use Rattle.task_graph.specs.Nodes.{ids_of, is_in_graph}

-- tasks ascend, and what each depends on ascends and is among them
pub record IsWhole (nodes : List Node) : Type 0 where
  pub few : length nodes < 2 ^ 32
  pub ascend : IsStrictlySortedBy id_cmp (ids_of nodes)
  pub deps : AllByRecursion (λ node. IsStrictlySortedBy id_cmp node.deps) nodes
  pub inner : AllByRecursion (λ node. AllByRecursion (λ d. is_in_graph nodes d ≡ true) node.deps) nodes
