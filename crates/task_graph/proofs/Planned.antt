-- An order by numbers, as one of tasks.
use Rattle.std.proofs.Common.{◌≡◌, ◌≢◌, ◌==◌, ◌&&◌, ◌||◌, ◌⊎◌, inl, inr, ◌+◌, ◌<◌, ℕ, zero, suc, Bool, true, false, cond, not, List, [], ◌∷◌, ◌++◌, length, map, refl, sym, ap, ◌∙◌, subst, arith, eqb, nat_lt, append_assoc}
use Rattle.std.specs.Prelude.{slice_index_or}
use Rattle.std.specs.List.{list_all, list_any, AllByRecursion}
use Rattle.std.specs.List.Sorted.{IsStrictlySortedBy}
use Rattle.std.specs.declared.cmp.Ordering.TheVariants.{Less}
use Rattle.std.specs.BTreeMap.{is_at}
use Rattle.std.proofs.lemmas.Bool.{false≢true, cases_order}
use Rattle.std.proofs.lemmas.Bool.Decides.{eqb_tells, nat_tests}
use Rattle.turbo_config.specs.declared.task_id.TaskId.{TaskId}
use Rattle.workspaces.specs.Lists.{places}
use Rattle.workspaces.specs.Reach.{is_in, row_at, AreBelow}
use Rattle.task_graph.specs.declared.node.Node.{Node}
use Rattle.task_graph.specs.declared.slots.Slot.{Slot}
use Rattle.task_graph.specs.declared.plan.PlanList.{PlanList}
use Rattle.task_graph.specs.Ids.{id_cmp, has}
use Rattle.task_graph.specs.Nodes.{ids_of, is_in_graph, deps_of}
use Rattle.task_graph.specs.Inside.{IsWhole}
use Rattle.task_graph.specs.Rows.{id_at, deps_at, AreRows, IsNumbered}
use Rattle.task_graph.specs.Sorting.{is_ready, IsNext, FollowRows, IsSorted, slot_at, is_left}
use Rattle.task_graph.specs.Plans.{is_open, IsFirst, Follow, IsPlan, places_of}
use Rattle.task_graph.proofs.Ids.{or_cases, or_left, or_right, and_first, and_second, id_total, id_tied, at_same, at_self, not_itself}
use Rattle.workspaces.proofs.Marking.{in_more, self_place}
use Rattle.workspaces.proofs.Lists.{nat_same}
use Rattle.task_graph.proofs.Placed.{id-less, less_back, tied_id, map-more, length-more, below-more}
use Rattle.task_graph.proofs.Searching.{any_at}
use Rattle.task_graph.proofs.Peeling.{all_none, all_member, below_of}
use Rattle.workspaces.proofs.Turning.{places-map}

-- the node of a task is found by it
deps_found : (nodes : List Node) → IsStrictlySortedBy id_cmp (ids_of nodes) → (i : ℕ) → i < length nodes → deps_of nodes (id_at nodes i) ≡ deps_at nodes i
unfolding deps_of IsStrictlySortedBy
deps_found [] up i less = absurd (omega arith)
deps_found (node ∷ nodes) up zero less = rw (at_self node.id) refl
deps_found (node ∷ nodes) up (suc i) less = rw (apart (is_at (id_cmp (id_at nodes i)) node.id) refl) (deps_found nodes up.1 i (omega arith)) where
  above : (ns : List Node) → AllByRecursion (λ id. id_cmp node.id id ≡ Less) (ids_of ns) → (k : ℕ) → k < length ns → id_cmp node.id (id_at ns k) ≡ Less
  above [] all k less = absurd (omega arith)
  above (n ∷ ns) all zero less = all.0
  above (n ∷ ns) all (suc k) less = above ns all.1 k (omega arith)

  apart : (t : Bool) → is_at (id_cmp (id_at nodes i)) node.id ≡ t → is_at (id_cmp (id_at nodes i)) node.id ≡ false
  apart true e = absurd (not_itself node.id (subst (λ w. id_cmp node.id w ≡ Less) (at_same (id_at nodes i) node.id e) (above nodes up.0 i (omega arith))))
  apart false e = e

module _ (nodes : List Node) (w : IsWhole nodes) where
  pub in_graph_at : (i : ℕ) → i < length nodes → is_in_graph nodes (id_at nodes i) ≡ true
  in_graph_at i less = by nodes i less where
    by : (ns : List Node) (k : ℕ) → k < length ns → is_in_graph ns (id_at ns k) ≡ true
    by [] k less = absurd (omega arith)
    by (n ∷ ns) zero less = or_left (is_at (id_cmp n.id) n.id) (has (ids_of ns) n.id) (at_self n.id)
    by (n ∷ ns) (suc k) less = or_right (is_at (id_cmp (id_at ns k)) n.id) (has (ids_of ns) (id_at ns k)) (by ns k (omega arith))

  pub number_of : (id : TaskId) → is_in_graph nodes id ≡ true → (i : ℕ) × (i < length nodes) × (id_at nodes i ≡ id)
  number_of id is = let found = any_at (λ (n : Node). n.id) id_cmp id_total id_tied id nodes is in (found.0, found.1, tied_id nodes found.0 id found.1 found.2)

  -- numbers are told apart by their tasks
  one_number : (p q : ℕ) → p < length nodes → q < length nodes → id_at nodes p ≡ id_at nodes q → p ≡ q
  one_number p q within inside same = by (cases_order p q) where
    by : (p ≡ q) ⊎ ((p < q) ⊎ (q < p)) → p ≡ q
    by (inl is) = is
    by (inr (inl less)) = absurd (not_itself (id_at nodes q) (subst (λ x. id_cmp x (id_at nodes q) ≡ Less) same (id-less nodes w.ascend p q less inside)))
    by (inr (inr more)) = absurd (not_itself (id_at nodes q) (subst (λ x. id_cmp (id_at nodes q) x ≡ Less) same (id-less nodes w.ascend q p more within)))

  at_number_of : (i p : ℕ) → i < length nodes → p < length nodes → is_at (id_cmp (id_at nodes i)) (id_at nodes p) ≡ (p == i)
  at_number_of i p less within = by (eqb_tells p i) where
    apart : p ≢ i → (t : Bool) → is_at (id_cmp (id_at nodes i)) (id_at nodes p) ≡ t → t ≡ false
    apart other true e = absurd (other (sym (one_number i p less within (at_same (id_at nodes i) (id_at nodes p) e))))
    apart other false e = refl

    by : ((eqb p i ≡ true) × (p ≡ i)) ⊎ ((eqb p i ≡ false) × (p ≢ i)) → is_at (id_cmp (id_at nodes i)) (id_at nodes p) ≡ (p == i)
    by (inl same) = subst (λ m. is_at (id_cmp (id_at nodes i)) (id_at nodes m) ≡ true) (sym same.1) (at_self (id_at nodes i)) ∙ sym same.0
    by (inr other) = apart other.1 (is_at (id_cmp (id_at nodes i)) (id_at nodes p)) refl ∙ sym other.0

  pub has_map : (ps : List ℕ) → AreBelow (length nodes) ps → (i : ℕ) → i < length nodes → has (map (id_at nodes) ps) (id_at nodes i) ≡ is_in ps i
  has_map [] below i less = refl
  has_map (p ∷ ps) below i less = λ j. at_number_of i p less below.0 j || has_map ps below.1 i less j

  pub all_map : (order row : List ℕ) → AreBelow (length nodes) order → AreBelow (length nodes) row → list_all (has (map (id_at nodes) order)) (map (id_at nodes) row) ≡ list_all (is_in order) row
  all_map order [] below inside = refl
  all_map order (d ∷ row) below inside = λ j. has_map order below d inside.0 j && all_map order row below inside.1 j

  -- a task of a list by numbers
  pub mapped : (ps : List ℕ) (id : TaskId) → has (map (id_at nodes) ps) id ≡ true → (p : ℕ) × (is_in ps p ≡ true) × (id_at nodes p ≡ id)
  mapped [] id is = absurd (false≢true is)
  mapped (p ∷ ps) id is = by (or_cases (is_at (id_cmp id) (id_at nodes p)) (has (map (id_at nodes) ps) id) is) (mapped ps id) where
    by : (is_at (id_cmp id) (id_at nodes p) ≡ true) ⊎ (has (map (id_at nodes) ps) id ≡ true) → (has (map (id_at nodes) ps) id ≡ true → (q : ℕ) × (is_in ps q ≡ true) × (id_at nodes q ≡ id)) → (q : ℕ) × (is_in (p ∷ ps) q ≡ true) × (id_at nodes q ≡ id)
    by (inl here) further = (p, or_left (p == p) (is_in ps p) (self_place p), sym (at_same id (id_at nodes p) here))
    by (inr later) further = let r = further later in (r.0, or_right (p == r.0) (is_in ps r.0) r.1, r.2)

  pub below_member : (ps : List ℕ) → AreBelow (length nodes) ps → (p : ℕ) → is_in ps p ≡ true → p < length nodes
  below_member [] below p is = absurd (false≢true is)
  below_member (q ∷ ps) below p is = by (or_cases (q == p) (is_in ps p) is) (below_member ps below.1 p) where
    by : ((q == p) ≡ true) ⊎ (is_in ps p ≡ true) → (is_in ps p ≡ true → p < length nodes) → p < length nodes
    by (inl here) further = subst (λ m. m < length nodes) (nat_same q p here) below.0
    by (inr later) further = further later

  module _ (rows : List (List ℕ)) (are : AreRows rows) (num : IsNumbered nodes rows) where
    pub row_below : (i : ℕ) → AreBelow (length nodes) (row_at rows i)
    row_below i = subst (λ n. AreBelow n (row_at rows i)) num.same (by rows are.below i) where
      by : (rs : List (List ℕ)) → AllByRecursion (AreBelow (length rows)) rs → (k : ℕ) → AreBelow (length rows) (row_at rs k)
      by [] all k = tt
      by (r ∷ rs) all zero = all.0
      by (r ∷ rs) all (suc k) = by rs all.1 k

    pub deps_are : (i : ℕ) → i < length nodes → deps_of nodes (id_at nodes i) ≡ map (id_at nodes) (row_at rows i)
    deps_are i less = deps_found nodes w.ascend i less ∙ num.deps i

    -- a task can come next where its number is ready
    pub open_is : (order : List ℕ) → AreBelow (length nodes) order → (i : ℕ) → i < length nodes → is_open nodes (map (id_at nodes) order) (id_at nodes i) ≡ is_ready rows order i
    unfolding is_open
    open_is order below i less =
        let within : nat_lt i (length rows) ≡ true = let s = num.same in grind (arith, nat_tests, less, s) in
        let all : list_all (has (map (id_at nodes) order)) (deps_of nodes (id_at nodes i)) ≡ list_all (is_in order) (row_at rows i) = ap (list_all (has (map (id_at nodes) order))) (deps_are i less) ∙ all_map order (row_at rows i) below (row_below i) in
        (λ j. in_graph_at i less j && (not (has_map order below i less j) && all j)) ∙ sym (ap (λ t. t && (not (is_in order i) && list_all (is_in order) (row_at rows i))) within)

    never_open : (before : List TaskId) (id : TaskId) → is_in_graph nodes id ≡ false → is_open nodes before id ≡ false
    unfolding is_open
    never_open before id none = rw none refl

    ready_within : (order : List ℕ) (i : ℕ) → is_ready rows order i ≡ true → i < length nodes
    ready_within order i ready =
        let less : i < length rows = below_of i (length rows) (and_first (nat_lt i (length rows)) (not (is_in order i) && list_all (is_in order) (row_at rows i)) ready) in
        omega (arith, less, num.same)

    next_is : (order : List ℕ) → AreBelow (length nodes) order → (i : ℕ) → IsNext rows order i → IsFirst (is_open nodes (map (id_at nodes) order)) (id_at nodes i)
    next_is order below i next = record {
      passes = open_is order below i within ∙ next.ready;
      least = λ other less. by other less (is_in_graph nodes other) refl;
    } where
      within : i < length nodes
      within = ready_within order i next.ready

      by : (other : TaskId) → id_cmp other (id_at nodes i) ≡ Less → (t : Bool) → is_in_graph nodes other ≡ t → is_open nodes (map (id_at nodes) order) other ≡ false
      by other less true is =
          let found = number_of other is in
          let before : found.0 < i = less_back nodes w.ascend found.0 i found.1 within (subst (λ x. id_cmp x (id_at nodes i) ≡ Less) (sym found.2) less) in
          subst (λ x. is_open nodes (map (id_at nodes) order) x ≡ false) found.2 (open_is order below found.0 found.1 ∙ next.least found.0 before)
      by other less false none = never_open (map (id_at nodes) order) other none

    pub follow_is : (before ns : List ℕ) → AreBelow (length nodes) before → FollowRows rows before ns → Follow nodes (map (id_at nodes) before) (map (id_at nodes) ns)
    follow_is before [] below follow = tt
    follow_is before (n ∷ ns) below follow = (
      next_is before below n follow.0,
      subst (λ b. Follow nodes b (map (id_at nodes) ns)) (map-more (id_at nodes) before n) (follow_is (before ++ n ∷ []) ns (below-more (length nodes) before n below (ready_within before n follow.0.ready)) follow.1),
    )

    pub follow_below : (before ns : List ℕ) → FollowRows rows before ns → AreBelow (length nodes) ns
    follow_below before [] follow = tt
    follow_below before (n ∷ ns) follow = (ready_within before n follow.0.ready, follow_below (before ++ n ∷ []) ns follow.1)

    -- ---- what is in the order

    module _ (order : List ℕ) (slots : List Slot) (sorted : IsSorted rows order slots) where
      pub order_below : AreBelow (length nodes) order
      order_below = follow_below [] order sorted.follow

      -- what is in the order is what all of its row is
      pub in_order : (i : ℕ) → i < length nodes → list_all (is_in order) (row_at rows i) ≡ is_in order i
      in_order i less = by (is_in order i) refl (list_all (is_in order) (row_at rows i)) refl where
        within : nat_lt i (length rows) ≡ true
        within = let s = num.same in grind (arith, nat_tests, less, s)

        by : (s : Bool) → is_in order i ≡ s → (t : Bool) → list_all (is_in order) (row_at rows i) ≡ t → t ≡ s
        by true e true f = refl
        by true e false f = sym f ∙ sorted.inner i e
        by false e true f =
            let ready : is_ready rows order i ≡ true = rw (within, e, f) refl in
            absurd (false≢true (sym (sorted.stuck i) ∙ ready))
        by false e false f = refl

      pub left_is : (i : ℕ) → i < length nodes → is_left slots i ≡ not (is_in order i)
      left_is i less = ap (λ n. not (n == 0)) (sorted.fits i).unmet ∙ (ap not (all_none order (row_at rows i)) ∙ ap not (in_order i less))

      -- what is left depends on what is left
      pub left_steps : (i : ℕ) → is_left slots i ≡ true → i < length nodes → list_any (is_left slots) (row_at rows i) ≡ true
      left_steps i left less = some (row_at rows i) (row_below i) (not_all (list_all (is_in order) (row_at rows i)) refl) where
        not_all : (t : Bool) → list_all (is_in order) (row_at rows i) ≡ t → list_all (is_in order) (row_at rows i) ≡ false
        not_all true e = absurd (false≢true (sym (ap not (sym (in_order i less) ∙ e)) ∙ (sym (left_is i less) ∙ left)))
        not_all false e = e

        some : (row : List ℕ) → AreBelow (length nodes) row → list_all (is_in order) row ≡ false → list_any (is_left slots) row ≡ true
        some [] below none = absurd (false≢true (sym none))
        some (d ∷ row) below none = by (is_in order d) refl none (some row below.1) where
          by : (t : Bool) → is_in order d ≡ t → (t && list_all (is_in order) row) ≡ false → (list_all (is_in order) row ≡ false → list_any (is_left slots) row ≡ true) → (is_left slots d || list_any (is_left slots) row) ≡ true
          by true e none further = or_right (is_left slots d) (list_any (is_left slots) row) (further none)
          by false e none further = or_left (is_left slots d) (list_any (is_left slots) row) (left_is d below.0 ∙ ap not e)

-- ---- places in the order

none_pass : {X : Type 0} (test : X → Bool) (xs : List X) → list_any test xs ≡ false → places test xs ≡ []
unfolding places
none_pass test [] none = refl
none_pass test (x ∷ xs) none = by (test x) none (none_pass test xs) where
  by : (t : Bool) → (t || list_any test xs) ≡ false → (list_any test xs ≡ false → places test xs ≡ []) → cond t (zero ∷ map suc (places test xs)) (map suc (places test xs)) ≡ []
  by true none further = absurd (false≢true (sym none))
  by false none further = ap (map suc) (further none)

shifted : (n : ℕ) (ds : List ℕ) → AllByRecursion (λ d. d < n) ds → AllByRecursion (λ d. d < suc n) (map suc ds)
shifted n [] all = tt
shifted n (d ∷ ds) all = (omega (arith, all.0), shifted n ds all.1)

in_front : {X : Type 0} (test : X → Bool) (before tail : List X) → list_any test tail ≡ false → AllByRecursion (λ d. d < length before) (places test (before ++ tail))
unfolding places
in_front test [] tail none = subst (λ ds. AllByRecursion (λ d. d < 0) ds) (sym (none_pass test tail none)) tt
in_front test (x ∷ before) tail none = by (test x) (shifted (length before) (places test (before ++ tail)) (in_front test before tail none)) where
  by : (t : Bool) → AllByRecursion (λ d. d < suc (length before)) (map suc (places test (before ++ tail))) → AllByRecursion (λ d. d < length (x ∷ before)) (cond t (zero ∷ map suc (places test (before ++ tail))) (map suc (places test (before ++ tail))))
  by true all = (omega arith, all)
  by false all = all

-- what comes later was not there before
fresh_later : (rows : List (List ℕ)) (before ns : List ℕ) → FollowRows rows before ns → (y : ℕ) → is_in ns y ≡ true → is_in before y ≡ false
fresh_later rows before [] follow y is = absurd (false≢true is)
fresh_later rows before (n ∷ ns) follow y is = by (or_cases (n == y) (is_in ns y) is) (fresh_later rows (before ++ n ∷ []) ns follow.1 y) where
  fresh : is_in before n ≡ false
  fresh = holds (is_in before n) (and_first (not (is_in before n)) (list_all (is_in before) (row_at rows n)) (and_second (nat_lt n (length rows)) (not (is_in before n) && list_all (is_in before) (row_at rows n)) follow.0.ready)) where
    holds : (t : Bool) → not t ≡ true → t ≡ false
    holds true e = absurd (false≢true e)
    holds false e = refl

  earlier : (t : Bool) → (t || (n == y)) ≡ false → t ≡ false
  earlier true e = absurd (false≢true (sym e))
  earlier false e = refl

  by : ((n == y) ≡ true) ⊎ (is_in ns y ≡ true) → (is_in ns y ≡ true → is_in (before ++ n ∷ []) y ≡ false) → is_in before y ≡ false
  by (inl here) further = subst (λ m. is_in before m ≡ false) (nat_same n y here) fresh
  by (inr later) further = earlier (is_in before y) (sym (in_more before n y) ∙ further later)

-- the places of what a task depends on are lower than its own
pub lower_places : (rows : List (List ℕ)) (before ns : List ℕ) → FollowRows rows before ns → (k : ℕ) → AllByRecursion (λ d. d < length before + k) (slice_index_or (map (λ m. places (is_in (row_at rows m)) (before ++ ns)) ns) k [])
lower_places rows before [] follow k = tt
lower_places rows before (n ∷ ns) follow zero = subst (λ b. AllByRecursion (λ d. d < b) (places (is_in (row_at rows n)) (before ++ n ∷ ns))) (plus (length before)) (in_front (is_in (row_at rows n)) before (n ∷ ns) (none (n ∷ ns) (λ y is. is))) where
  plus : (b : ℕ) → b ≡ b + 0
  plus b = omega arith

  all : list_all (is_in before) (row_at rows n) ≡ true
  all = and_second (not (is_in before n)) (list_all (is_in before) (row_at rows n)) (and_second (nat_lt n (length rows)) (not (is_in before n) && list_all (is_in before) (row_at rows n)) follow.0.ready)

  none : (ys : List ℕ) → ((y : ℕ) → is_in ys y ≡ true → is_in (n ∷ ns) y ≡ true) → list_any (is_in (row_at rows n)) ys ≡ false
  none [] among = refl
  none (y ∷ ys) among = by (is_in (row_at rows n) y) refl (none ys (λ z is. among z (or_right (y == z) (is_in ys z) is))) where
    by : (t : Bool) → is_in (row_at rows n) y ≡ t → list_any (is_in (row_at rows n)) ys ≡ false → (t || list_any (is_in (row_at rows n)) ys) ≡ false
    by true e rest = absurd (false≢true (sym (fresh_later rows before (n ∷ ns) follow y (among y (or_left (y == y) (is_in ys y) (self_place y)))) ∙ all_member before (row_at rows n) y all e))
    by false e rest = rest
lower_places rows before (n ∷ ns) follow (suc k) =
    let more = lower_places rows (before ++ n ∷ []) ns follow.1 k in
    let whole : (before ++ n ∷ []) ++ ns ≡ before ++ n ∷ ns = append_assoc before (n ∷ []) ns in
    let count : length (before ++ n ∷ []) + k ≡ length before + suc k = omega (arith, length-more before n) in
    subst (λ b. AllByRecursion (λ d. d < b) (slice_index_or (map (λ m. places (is_in (row_at rows m)) (before ++ n ∷ ns)) ns) k [])) count
    (subst (λ o. AllByRecursion (λ d. d < length (before ++ n ∷ []) + k) (slice_index_or (map (λ m. places (is_in (row_at rows m)) o) ns) k [])) whole more)

-- ---- the plan

places_alike : (count : ℕ) (p r : ℕ → Bool) → ((x : ℕ) → x < count → p x ≡ r x) → (xs : List ℕ) → AreBelow count xs → places p xs ≡ places r xs
unfolding places
places_alike count p r same [] below = refl
places_alike count p r same (x ∷ xs) below = λ j. cond (same x below.0 j) (zero ∷ map suc (places_alike count p r same xs below.1 j)) (map suc (places_alike count p r same xs below.1 j))

map_alike : {Y : Type 0} (count : ℕ) (f g : ℕ → Y) → ((x : ℕ) → x < count → f x ≡ g x) → (xs : List ℕ) → AreBelow count xs → map f xs ≡ map g xs
map_alike count f g same [] below = refl
map_alike count f g same (x ∷ xs) below = λ j. same x below.0 j ∷ map_alike count f g same xs below.1 j

map_twice : {X Y Z : Type 0} (g : Y → Z) (f : X → Y) (xs : List X) → map g (map f xs) ≡ map (λ x. g (f x)) xs
map_twice g f [] = refl
map_twice g f (x ∷ xs) = ap (λ ys. g (f x) ∷ ys) (map_twice g f xs)

module _ (nodes : List Node) (w : IsWhole nodes) (rows : List (List ℕ)) (are : AreRows rows) (num : IsNumbered nodes rows) (order : List ℕ) (slots : List Slot) (sorted : IsSorted rows order slots) where
  places_are : (m : ℕ) → m < length nodes → (slot_at slots m).places ≡ places_of nodes (map (id_at nodes) order) (id_at nodes m)
  places_are m less =
      (sorted.fits m).places
      ∙ (places_alike (length nodes) (is_in (row_at rows m)) (λ x. has (deps_of nodes (id_at nodes m)) (id_at nodes x)) (λ x within. sym (ap (λ ds. has ds (id_at nodes x)) (deps_are nodes w rows are num m less) ∙ has_map nodes w (row_at rows m) (row_below nodes w rows are num m) x within)) order (order_below nodes w rows are num order slots sorted)
      ∙ sym (places-map (id_at nodes) (has (deps_of nodes (id_at nodes m))) order))

  -- where nothing is left
  pub plan_is : ((n : ℕ) → is_left slots n ≡ false) → (plan : PlanList) → plan.ids ≡ map (id_at nodes) order → plan.deps ≡ map (λ m. (slot_at slots m).places) order → IsPlan nodes plan
  plan_is none plan ids deps = record {
    order = record {
      follow = subst (λ xs. Follow nodes [] xs) (sym ids) (follow_is nodes w rows are num [] order tt sorted.follow);
      whole = λ id is. whole id (number_of nodes w id is);
    };
    deps = deps ∙ (map_alike (length nodes) (λ m. (slot_at slots m).places) (λ m. places_of nodes (map (id_at nodes) order) (id_at nodes m)) places_are order (order_below nodes w rows are num order slots sorted)
        ∙ (sym (map_twice (places_of nodes (map (id_at nodes) order)) (id_at nodes) order) ∙ λ j. map (places_of nodes (sym ids j)) (sym ids j)));
    lower = λ k. subst (λ ds. AllByRecursion (λ d. d < k) (slice_index_or ds k [])) (sym (deps ∙ fits)) (lower k);
  } where
    whole : (id : TaskId) → (i : ℕ) × (i < length nodes) × (id_at nodes i ≡ id) → has plan.ids id ≡ true
    whole id (i, less, is) =
        let there : is_in order i ≡ true = holds (is_in order i) (sym (left_is nodes w rows are num order slots sorted i less) ∙ none i) in
        subst (λ x. has plan.ids x ≡ true) is (ap (λ xs. has xs (id_at nodes i)) ids ∙ (has_map nodes w order (order_below nodes w rows are num order slots sorted) i less ∙ there)) where
          holds : (t : Bool) → not t ≡ false → t ≡ true
          holds true e = refl
          holds false e = absurd (false≢true (sym e))

    fits : map (λ m. (slot_at slots m).places) order ≡ map (λ m. places (is_in (row_at rows m)) order) order
    fits = map_alike (length nodes) (λ m. (slot_at slots m).places) (λ m. places (is_in (row_at rows m)) order) (λ m less. (sorted.fits m).places) order (order_below nodes w rows are num order slots sorted)

    lower : (k : ℕ) → AllByRecursion (λ d. d < k) (slice_index_or (map (λ m. places (is_in (row_at rows m)) order) order) k [])
    lower k = subst (λ b. AllByRecursion (λ d. d < b) (slice_index_or (map (λ m. places (is_in (row_at rows m)) order) order) k [])) (plain k) (lower_places rows [] order sorted.follow k) where
      plain : (b : ℕ) → 0 + b ≡ b
      plain b = omega arith
