-- What the definitions settle.
use Rattle.std.proofs.Common.{◌≡◌, ◌&&◌, ◌||◌, ℕ, Bool, true, false, not, List, [], ◌∷◌, ◌++◌, refl, sym, ap, ◌∙◌, subst, Result, Ok, Err, append_assoc}
use Rattle.std.specs.List.{list_all}
use Rattle.std.specs.declared.cmp.Ordering.{Ordering}
use Rattle.std.specs.declared.cmp.Ordering.TheVariants.{Less, Equal, Greater}
use Rattle.std.specs.Ordering.{ordering_reverse}
use Rattle.std.proofs.lemmas.Bool.{false≢true}
use Rattle.task_definitions.specs.Setup.{Setup}
use Rattle.turbo_config.specs.declared.task_id.TaskId.{TaskId}
use Rattle.workspaces.specs.Space.{Space}
use Rattle.task_graph.specs.declared.error.GraphErr.{GraphErr}
use Rattle.task_graph.specs.declared.node.Node.{Node}
use Rattle.task_graph.specs.Ids.{id_cmp, has}
use Rattle.task_graph.specs.Entries.{entry_tasks}
use Rattle.task_graph.specs.Nodes.{is_in_graph, deps_of}
use Rattle.task_graph.specs.Graphs.{AreTasks, nodes_of, IsGraphFrom, MeansFrom, Means}
use Rattle.task_graph.specs.Plans.{is_open, IsFirst, Follow, IsPlanOrder}
use Rattle.task_graph.specs.Cycles.{IsCycle, is_left, IsWay, Steps}
use Rattle.task_graph.proofs.Ids.{id_total, id_tied, has-from, from-has, has-append, and_first, and_second}
use Rattle.workspaces.proofs.Order.{same_ascending}
use Rattle.task_graph.proofs.Circling.{within_taken}

-- ---- one graph

one_list : (space : Space) (config : Setup) (starts one other : List TaskId) → AreTasks space config starts one → AreTasks space config starts other → one ≡ other
one_list space config starts one other a b =
    same_ascending id_cmp id_total one other a.ascend b.ascend
    (λ id there. from-has other id (a.least.1 (has other) b.least.0 id (has-from one id there)))
    (λ id there. from-has one id (b.least.1 (has one) a.least.0 id (has-from other id there)))

from_one : (space : Space) (config : Setup) (starts : List TaskId) (one other : Result (List Node) GraphErr) → IsGraphFrom space config starts one → IsGraphFrom space config starts other → one ≡ other
from_one space config starts one other a b = sym a.nodes ∙ (ap (nodes_of space config) (one_list space config starts a.ids b.ids a.are b.are) ∙ b.nodes)

pub one_graph : (space : Space) (config : Setup) (selected : List ℕ) (all : Bool) (words : List (List ℕ)) (one other : Result (List Node) GraphErr)
    → Means space config selected all words one → Means space config selected all words other → one ≡ other
one_graph space config selected all words one other = by (entry_tasks space config selected all words) where
  by : (named : Result (List TaskId) GraphErr) → MeansFrom space config named one → MeansFrom space config named other → one ≡ other
  by (Err fault) a b = sym a ∙ b
  by (Ok starts) a b = from_one space config starts one other a b

-- ---- one order

one_first : (test : TaskId → Bool) (a b : TaskId) → IsFirst test a → IsFirst test b → a ≡ b
one_first test a b first second = by (id_cmp a b) refl where
  by : (r : Ordering) → id_cmp a b ≡ r → a ≡ b
  by Less e = absurd (false≢true (sym (second.least a e) ∙ first.passes))
  by Equal e = id_tied a b e
  by Greater e = let back : id_cmp b a ≡ ordering_reverse (id_cmp a b) = id_total.antisymm b a in let less : id_cmp b a ≡ Less = rw e at back in absurd (false≢true (sym (first.least b less) ∙ second.passes))

-- what is open is in the graph and not before
never_after : (nodes : List Node) (before : List TaskId) (id : TaskId) → is_open nodes before id ≡ true → ((x : TaskId) → is_in_graph nodes x ≡ true → has before x ≡ true) → ⊥
unfolding is_open
never_after nodes before id opens whole =
    let graph : is_in_graph nodes id ≡ true = and_first (is_in_graph nodes id) (not (has before id) && list_all (has before) (deps_of nodes id)) opens in
    let fresh : not (has before id) ≡ true = and_first (not (has before id)) (list_all (has before) (deps_of nodes id)) (and_second (is_in_graph nodes id) (not (has before id) && list_all (has before) (deps_of nodes id)) opens) in
    false≢true (sym (ap not (whole id graph)) ∙ fresh)

plain : (nodes : List Node) (before : List TaskId) → ((x : TaskId) → is_in_graph nodes x ≡ true → has (before ++ []) x ≡ true) → (x : TaskId) → is_in_graph nodes x ≡ true → has before x ≡ true
plain nodes before whole x among = none (has before x) (sym (has-append before [] x) ∙ whole x among) where
  none : (t : Bool) → (t || false) ≡ true → t ≡ true
  none true e = refl
  none false e = e

orders : (nodes : List Node) (before one other : List TaskId) → Follow nodes before one → Follow nodes before other
    → ((x : TaskId) → is_in_graph nodes x ≡ true → has (before ++ one) x ≡ true) → ((x : TaskId) → is_in_graph nodes x ≡ true → has (before ++ other) x ≡ true) → one ≡ other
orders nodes before [] [] a b whole all = refl
orders nodes before [] (y ∷ other) a b whole all = absurd (never_after nodes before y b.0.passes (plain nodes before whole))
orders nodes before (x ∷ one) [] a b whole all = absurd (never_after nodes before x a.0.passes (plain nodes before all))
orders nodes before (x ∷ one) (y ∷ other) a b whole all =
    let same : x ≡ y = one_first (is_open nodes before) x y a.0 b.0 in
    let rest : one ≡ other = orders nodes (before ++ x ∷ []) one other a.1 (subst (λ z. Follow nodes (before ++ z ∷ []) other) (sym same) b.1)
    (λ z among. subst (λ xs. has xs z ≡ true) (sym (append_assoc before (x ∷ []) one)) (whole z among))
    (λ z among. subst (λ xs. has xs z ≡ true) (sym (append_assoc before (x ∷ []) other)) (subst (λ w. has (before ++ w ∷ other) z ≡ true) (sym same) (all z among))) in
    λ j. same j ∷ rest j

pub one_order : (nodes : List Node) (one other : List TaskId) → IsPlanOrder nodes one → IsPlanOrder nodes other → one ≡ other
one_order nodes one other a b = orders nodes [] one other a.follow b.follow a.whole b.whole

-- ---- a cycle leaves tasks over

begins_left : (begins : TaskId → Type 0) (step : TaskId → TaskId → Type 0) (front : List TaskId) (x : TaskId) (rest : List TaskId) → IsWay begins step (front ++ x ∷ rest) → (y : TaskId) × begins y
begins_left begins step [] x rest way = (x, way.0)
begins_left begins step (y ∷ front) x rest way = (y, way.0)

pub no_cycle : (nodes : List Node) (ids cycle : List TaskId) → IsPlanOrder nodes ids → IsCycle nodes cycle → ⊥
unfolding is_left
no_cycle nodes ids cycle order is =
    let first = begins_left (IsFirst (is_left nodes is.taken)) (Steps nodes is.taken) is.front is.first (is.rest ++ is.first ∷ []) (subst (IsWay (IsFirst (is_left nodes is.taken)) (Steps nodes is.taken)) (append_assoc is.front (is.first ∷ is.rest) (is.first ∷ [])) is.way) in
    let graph : is_in_graph nodes first.0 ≡ true = and_first (is_in_graph nodes first.0) (not (is.taken first.0)) first.1.passes in
    let free : not (is.taken first.0) ≡ true = and_second (is_in_graph nodes first.0) (not (is.taken first.0)) first.1.passes in
    let taken : is.taken first.0 ≡ true = within_taken nodes is.taken is.are_taken.0 [] ids order.follow (λ x none. absurd (false≢true none)) first.0 (order.whole first.0 graph) in
    false≢true (sym (ap not taken) ∙ free)
