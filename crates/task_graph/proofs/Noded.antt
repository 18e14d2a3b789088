-- The nodes of the tasks that were found.
use Rattle.std.proofs.Common.{◌≡◌, ◌<◌, ◌^◌, ℕ, Bool, true, List, [], ◌∷◌, length, map, refl, sym, ap, ◌∙◌, subst, Result, Ok, Err}
use Rattle.std.specs.Prelude.{Option, Some, None}
use Rattle.std.specs.List.{AllByRecursion}
use Rattle.std.specs.List.Sorted.{IsStrictlySortedBy}
use Rattle.task_definitions.specs.Setup.{Setup}
use Rattle.turbo_config.specs.declared.task_id.TaskId.{TaskId}
use Rattle.workspaces.specs.Space.{Space}
use Rattle.task_graph.specs.declared.edges.Row.{Row}
use Rattle.task_graph.specs.declared.error.GraphErr.{GraphErr}
use Rattle.task_graph.specs.declared.node.Node.{Node}
use Rattle.task_graph.specs.Ids.{id_cmp, has}
use Rattle.task_graph.specs.Entries.{entry_tasks}
use Rattle.task_graph.specs.Edges.{edges, row_of, first_refused}
use Rattle.task_graph.specs.Nodes.{ids_of}
use Rattle.task_graph.specs.Graphs.{node_by, node_of, nodes_of, and_nodes, AreTasks, Means, MeansFrom}
use Rattle.task_graph.specs.Inside.{IsWhole}
use Rattle.task_graph.specs.Fronts.{AreRowsOf, nodes_by}
use Rattle.std.specs.BTreeMap.{is_at}
use Rattle.task_graph.proofs.Ids.{id_total, has-from, or_left, or_right, at_self}
use Rattle.workspaces.proofs.Order.{sorted-ascending, all_from}

module _ (space : Space) (config : Setup) where
  nodes_rows : (ids : List TaskId) → nodes_by (map (λ id. (id, row_of space config id)) ids) ≡ nodes_of space config ids
  nodes_rows [] = refl
  nodes_rows (id ∷ ids) = ap (and_nodes (node_of space config id)) (nodes_rows ids)

  pub nodes_are : (ids : List TaskId) (rows : List (TaskId × Row)) → AreRowsOf space config ids rows → nodes_by rows ≡ nodes_of space config ids
  nodes_are ids rows are = ap nodes_by are ∙ nodes_rows ids

  -- what is meant, by what was found
  pub means_is : (selected : List ℕ) (all : Bool) (words : List (List ℕ)) (starts ids : List TaskId) (rows : List (TaskId × Row)) (answer : Result (List Node) GraphErr)
      → entry_tasks space config selected all words ≡ Ok starts → AreTasks space config starts ids → AreRowsOf space config ids rows → nodes_by rows ≡ answer → Means space config selected all words answer
  means_is selected all words starts ids rows answer named tasks are is =
      subst (λ r. MeansFrom space config r answer) (sym named) (record { ids = ids; are = tasks; nodes = sym (nodes_are ids rows are) ∙ is })

  -- ---- what holds of the nodes

  parts : (r : Result Node GraphErr) (m : Result (List Node) GraphErr) (nodes : List Node) → and_nodes r m ≡ Ok nodes → (node : Node) × (rest : List Node) × (r ≡ Ok node) × (m ≡ Ok rest) × (nodes ≡ node ∷ rest)
  parts (Err fault) m nodes is = absurd (cc)
  parts (Ok node) (Err fault) nodes is = absurd (cc)
  parts (Ok node) (Ok rest) nodes is = (node, rest, refl, refl, cc)

  node_is : (refused : Option (List ℕ)) (id : TaskId) (deps : List TaskId) (node : Node) → node_by refused id deps ≡ Ok node → node ≡ record { id = id; deps = deps }
  node_is None id deps node is = cc
  node_is (Some text) id deps node is = absurd (cc)

  pub ids_are : (ids : List TaskId) (nodes : List Node) → nodes_of space config ids ≡ Ok nodes → ids_of nodes ≡ ids
  ids_are [] nodes is = let none : nodes ≡ [] = cc in ap ids_of none
  ids_are (id ∷ ids) nodes is =
      let p = parts (node_of space config id) (nodes_of space config ids) nodes is in
      let head : p.0.id ≡ id = ap (λ (n : Node). n.id) (node_is (first_refused space config id) id (edges space config id) p.0 p.2) in
      let tail : ids_of p.1 ≡ ids = ids_are ids p.1 p.3 in
      ap ids_of p.4 ∙ (λ j. head j ∷ tail j)

  deps_ascend : (ids : List TaskId) (nodes : List Node) → nodes_of space config ids ≡ Ok nodes → AllByRecursion (λ node. IsStrictlySortedBy id_cmp node.deps) nodes
  unfolding edges
  deps_ascend [] nodes is = let none : nodes ≡ [] = cc in subst (AllByRecursion (λ node. IsStrictlySortedBy id_cmp node.deps)) (sym none) tt
  deps_ascend (id ∷ ids) nodes is =
      let p = parts (node_of space config id) (nodes_of space config ids) nodes is in
      let node : p.0 ≡ record { id = id; deps = edges space config id } = node_is (first_refused space config id) id (edges space config id) p.0 p.2 in
      subst (AllByRecursion (λ n. IsStrictlySortedBy id_cmp n.deps)) (sym p.4) (subst (λ (n : Node). IsStrictlySortedBy id_cmp n.deps) (sym node) (sorted-ascending id_cmp id_total _), deps_ascend ids p.1 p.3)

  deps_inner : (set : TaskId → Bool) → ((id next : TaskId) → set id ≡ true → has (edges space config id) next ≡ true → set next ≡ true) → (ids : List TaskId) (nodes : List Node) → nodes_of space config ids ≡ Ok nodes
      → ((id : TaskId) → has ids id ≡ true → set id ≡ true) → AllByRecursion (λ node. AllByRecursion (λ d. set d ≡ true) node.deps) nodes
  deps_inner set closed [] nodes is among = let none : nodes ≡ [] = cc in subst (AllByRecursion (λ node. AllByRecursion (λ d. set d ≡ true) node.deps)) (sym none) tt
  deps_inner set closed (id ∷ ids) nodes is among =
      let p = parts (node_of space config id) (nodes_of space config ids) nodes is in
      let node : p.0 ≡ record { id = id; deps = edges space config id } = node_is (first_refused space config id) id (edges space config id) p.0 p.2 in
      let own : set id ≡ true = among id (or_left (is_at (id_cmp id) id) (has ids id) (at_self id)) in
      let inner : AllByRecursion (λ d. set d ≡ true) (edges space config id) = all_from (λ d. set d ≡ true) (edges space config id) (λ d there. closed id d own (has-from (edges space config id) d there)) in
      subst (AllByRecursion (λ n. AllByRecursion (λ d. set d ≡ true) n.deps)) (sym p.4)
      (subst (λ (n : Node). AllByRecursion (λ d. set d ≡ true) n.deps) (sym node) inner, deps_inner set closed ids p.1 p.3 (λ x later. among x (or_right (is_at (id_cmp x) id) (has ids x) later)))

  pub nodes_whole : (starts ids : List TaskId) (nodes : List Node) → AreTasks space config starts ids → nodes_of space config ids ≡ Ok nodes → length nodes < 2 ^ 32 → IsWhole nodes
  nodes_whole starts ids nodes tasks is few =
      let same : ids_of nodes ≡ ids = ids_are ids nodes is in
      record {
        few = few;
        ascend = subst (IsStrictlySortedBy id_cmp) (sym same) tasks.ascend;
        deps = deps_ascend ids nodes is;
        inner = subst (λ xs. AllByRecursion (λ node. AllByRecursion (λ d. has xs d ≡ true) node.deps) nodes) (sym same) (deps_inner (has ids) tasks.least.0.edge ids nodes is (λ id there. there));
      }
