-- What holds of every plan of a graph.
use Rattle.std.proofs.Common.{◌≡◌, ◌≢◌, ◌&&◌, ◌||◌, inl, inr, ◌≤◌, Bool, true, false, not, List, [], ◌∷◌, ◌++◌, length, map, refl, sym, ap, ◌∙◌, subst, arith}
use Rattle.std.specs.List.{list_all, list_any, AllByRecursion, AllPairs, IsDistinct}
use Rattle.std.specs.List.Sorted.{IsStrictlySortedBy}
use Rattle.std.specs.Ordering.{nat_cmp}
use Rattle.std.specs.BTreeMap.{is_at}
use Rattle.std.proofs.lemmas.Bool.{false≢true}
use Rattle.std.proofs.lemmas.List.{length-map}
use Rattle.std.proofs.lemmas.Map.Made.{AllPairs-from_IsDistinct, length-le_from_is_member}
use Rattle.turbo_config.specs.declared.task_id.TaskId.{TaskId}
use Rattle.task_graph.specs.declared.node.Node.{Node}
use Rattle.task_graph.specs.declared.plan.PlanList.{PlanList}
use Rattle.task_graph.specs.Ids.{id_cmp, has}
use Rattle.task_graph.specs.Nodes.{ids_of, is_in_graph, deps_of}
use Rattle.task_graph.specs.Plans.{is_open, Follow, IsPlan, places_of}
use Rattle.task_graph.proofs.Ids.{id_eq, id_equiv, id_ties, id_same, at_self, at_same, has-append, or_left, or_right, or_cases, and_first, and_second}
use Rattle.workspaces.proofs.Lists.{sorted-places}

module _ (nodes : List Node) where
  in_graph : (before : List TaskId) (id : TaskId) → is_open nodes before id ≡ true → is_in_graph nodes id ≡ true
  unfolding is_open
  in_graph before id opens = and_first (is_in_graph nodes id) (not (has before id) && list_all (has before) (deps_of nodes id)) opens

  fresh : (before : List TaskId) (id : TaskId) → is_open nodes before id ≡ true → has before id ≡ false
  unfolding is_open
  fresh before id opens = by (has before id) (and_first (not (has before id)) (list_all (has before) (deps_of nodes id)) (and_second (is_in_graph nodes id) (not (has before id) && list_all (has before) (deps_of nodes id)) opens)) where
    by : (t : Bool) → not t ≡ true → t ≡ false
    by true e = absurd (false≢true e)
    by false e = refl

  -- what was before does not come again
  never_again : (before ids : List TaskId) → Follow nodes before ids → (x : TaskId) → has before x ≡ true → has ids x ≡ false
  never_again before [] follow x is = refl
  never_again before (id ∷ ids) follow x is = by (is_at (id_cmp x) id) refl (never_again (before ++ id ∷ []) ids follow.1 x (has-append before (id ∷ []) x ∙ or_left (has before x) (has (id ∷ []) x) is)) where
    by : (t : Bool) → is_at (id_cmp x) id ≡ t → has ids x ≡ false → (t || has ids x) ≡ false
    by true e later = absurd (false≢true (sym (fresh before id follow.0.passes) ∙ subst (λ w. has before w ≡ true) (at_same x id e) is))
    by false e later = later

  apart_from : (x : TaskId) (ids : List TaskId) → has ids x ≡ false → AllByRecursion (λ y. id_eq x y ≡ false) ids
  apart_from x [] none = tt
  apart_from x (id ∷ ids) none = by (is_at (id_cmp x) id) refl none (apart_from x ids) where
    by : (t : Bool) → is_at (id_cmp x) id ≡ t → (t || has ids x) ≡ false → (has ids x ≡ false → AllByRecursion (λ y. id_eq x y ≡ false) ids) → AllByRecursion (λ y. id_eq x y ≡ false) (id ∷ ids)
    by true e none further = absurd (false≢true (sym none))
    by false e none further = (id_ties x id ∙ e, further none)

  distinct : (before ids : List TaskId) → Follow nodes before ids → IsDistinct id_eq ids
  unfolding IsDistinct
  distinct before [] follow = tt
  distinct before (id ∷ ids) follow = (apart_from id ids (never_again (before ++ id ∷ []) ids follow.1 id (has-append before (id ∷ []) id ∙ or_right (has before id) (has (id ∷ []) id) (or_left (is_at (id_cmp id) id) false (at_self id)))), distinct (before ++ id ∷ []) ids follow.1)

  inner : (before ids : List TaskId) → Follow nodes before ids → AllByRecursion (λ id. is_in_graph nodes id ≡ true) ids
  inner before [] follow = tt
  inner before (id ∷ ids) follow = (in_graph before id follow.0.passes, inner (before ++ id ∷ []) ids follow.1)

-- the two ways to look for a task
member_is : (ids : List TaskId) (q : TaskId) → list_any (id_eq q) ids ≡ has ids q
member_is [] q = refl
member_is (id ∷ ids) q = λ j. id_ties q id j || member_is ids q j

-- what is a member of what passes passes
passes : (P : TaskId → Bool) (ids : List TaskId) (q : TaskId) → AllByRecursion (λ id. P id ≡ true) ids → has ids q ≡ true → P q ≡ true
passes P [] q all is = absurd (false≢true is)
passes P (id ∷ ids) q all is = elim (or_cases (is_at (id_cmp q) id) (has ids q) is) [
  | inl here ↦ subst (λ w. P w ≡ true) (sym (at_same q id here)) all.0
  | inr later ↦ passes P ids q all.1 later
]

by_ids : (P : TaskId → Bool) (nodes : List Node) → AllByRecursion (λ node. P node.id ≡ true) nodes → AllByRecursion (λ id. P id ≡ true) (ids_of nodes)
by_ids P [] all = tt
by_ids P (node ∷ nodes) all = (all.0, by_ids P nodes all.1)

each_ascends : (nodes : List Node) (ids some : List TaskId) → AllByRecursion (IsStrictlySortedBy nat_cmp) (map (places_of nodes ids) some)
each_ascends nodes ids [] = tt
each_ascends nodes ids (id ∷ some) = (sorted-places (has (deps_of nodes id)) ids, each_ascends nodes ids some)

module _ (nodes : List Node) (plan : PlanList) (is : IsPlan nodes plan) where
  pub plan_apart : AllPairs (λ a b. a ≢ b) plan.ids
  plan_apart = AllPairs-from_IsDistinct (λ a b. (id_same a b, λ e. subst (λ w. id_eq a w ≡ true) e (id_ties a a ∙ at_self a))) plan.ids (distinct nodes [] plan.ids is.order.follow)

  within : AllByRecursion (λ id. is_in_graph nodes id ≡ true) plan.ids
  within = inner nodes [] plan.ids is.order.follow

  pub plan_inner : (test : TaskId → Bool) → AllByRecursion (λ node. test node.id ≡ true) nodes → AllByRecursion (λ id. test id ≡ true) plan.ids
  plan_inner test all = by plan.ids within where
    by : (ids : List TaskId) → AllByRecursion (λ id. is_in_graph nodes id ≡ true) ids → AllByRecursion (λ id. test id ≡ true) ids
    by [] among = tt
    by (id ∷ ids) among = (passes test (ids_of nodes) id (by_ids test nodes all) among.0, by ids among.1)

  pub plan_ascends : AllByRecursion (IsStrictlySortedBy nat_cmp) plan.deps
  plan_ascends = subst (AllByRecursion (IsStrictlySortedBy nat_cmp)) (sym is.deps) (each_ascends nodes plan.ids plan.ids)

  pub plan_same : length plan.deps ≡ length plan.ids
  plan_same = ap length is.deps ∙ length-map plan.ids (places_of nodes plan.ids)

  pub plan_few : length plan.ids ≤ length nodes
  plan_few =
      let most : length plan.ids ≤ length (ids_of nodes) = length-le_from_is_member id_equiv plan.ids (ids_of nodes) (distinct nodes [] plan.ids is.order.follow)
      (λ q member. member_is (ids_of nodes) q ∙ passes (is_in_graph nodes) plan.ids q within (sym (member_is plan.ids q) ∙ member)) in
      omega (arith, most, length-map nodes (λ (node : Node). node.id))
