-- A way by numbers, as one of tasks.
use Rattle.std.proofs.Common.{◌≡◌, ◌==◌, ◌&&◌, ◌||◌, ◌⊎◌, inl, inr, ◌<◌, ℕ, zero, suc, Bool, true, false, cond, not, List, [], ◌∷◌, ◌++◌, length, map, refl, sym, ap, ◌∙◌, subst, arith}
use Rattle.std.specs.Prelude.{Some, find}
use Rattle.std.specs.List.{list_all}
use Rattle.std.specs.List.Sorted.{IsStrictlySortedBy}
use Rattle.std.specs.Ordering.{nat_cmp}
use Rattle.std.specs.declared.cmp.Ordering.TheVariants.{Less}
use Rattle.std.specs.BTreeMap.{is_at}
use Rattle.std.proofs.lemmas.Bool.{false≢true}
use Rattle.std.proofs.lemmas.Bool.Decides.{nat_tests}
use Rattle.turbo_config.specs.declared.task_id.TaskId.{TaskId}
use Rattle.workspaces.specs.Reach.{is_in, row_at, AreBelow}
use Rattle.task_graph.specs.declared.node.Node.{Node}
use Rattle.task_graph.specs.declared.slots.Slot.{Slot}
use Rattle.task_graph.specs.Ids.{id_cmp, has}
use Rattle.task_graph.specs.Nodes.{is_in_graph, deps_of}
use Rattle.task_graph.specs.Inside.{IsWhole}
use Rattle.task_graph.specs.Rows.{id_at, AreRows, IsNumbered}
use Rattle.task_graph.specs.Sorting.{IsSorted, is_left}
use Rattle.task_graph.specs.Plans.{is_open, IsFirst, Follow}
use Rattle.task_graph.specs.Cycles as cycles
use Rattle.task_graph.specs.Ways.{IsLeastNumber, StepsOn, AreOnce, IsWayOn, Circles}
use Rattle.task_graph.proofs.Ids.{or_cases, or_left, or_right, and_first, and_second, has-append, at_same}
use Rattle.workspaces.proofs.Marking.{from-in}
use Rattle.workspaces.proofs.Lists.{less_nat, nat_same}
use Rattle.workspaces.proofs.Order.{all_has}
use Rattle.task_graph.proofs.Placed.{less_back}
use Rattle.task_graph.proofs.Peeling.{row_up}
use Rattle.task_graph.proofs.Planned.{in_graph_at, number_of, has_map, mapped, below_member, row_below, deps_are, follow_is, order_below, in_order, left_is, all_map}
use Rattle.task_graph.proofs.Walking.{left_within}

-- ---- what a search finds in a row that ascends

found_in : (p : ℕ → Bool) (row : List ℕ) (b : ℕ) → find p row ≡ Some b → (is_in row b ≡ true) × (p b ≡ true)
found_in p [] b found = absurd (cc)
found_in p (d ∷ row) b found = by (p d) refl found (found_in p row b) where
  by : (t : Bool) → p d ≡ t → cond t (Some d) (find p row) ≡ Some b → (find p row ≡ Some b → (is_in row b ≡ true) × (p b ≡ true)) → (is_in (d ∷ row) b ≡ true) × (p b ≡ true)
  by true e found further = let same : d ≡ b = cc in (or_left (d == b) (is_in row b) (here same), subst (λ n. p n ≡ true) same e) where
    here : d ≡ b → (d == b) ≡ true
    here same = grind (arith, nat_tests, same)
  by false e found further = let r = further found in (or_right (d == b) (is_in row b) r.0, r.1)

found_least : (p : ℕ → Bool) (row : List ℕ) (b : ℕ) → IsStrictlySortedBy nat_cmp row → find p row ≡ Some b → (d : ℕ) → is_in row d ≡ true → d < b → p d ≡ false
unfolding IsStrictlySortedBy
found_least p [] b up found d is less = absurd (false≢true is)
found_least p (x ∷ row) b up found d is less = by (p x) refl found (or_cases (x == d) (is_in row d) is) (found_least p row b up.1) where
  by : (t : Bool) → p x ≡ t → cond t (Some x) (find p row) ≡ Some b → ((x == d) ≡ true) ⊎ (is_in row d ≡ true) → (find p row ≡ Some b → (e : ℕ) → is_in row e ≡ true → e < b → p e ≡ false) → p d ≡ false
  by true e found (inl here) further = let same : x ≡ b = cc in let this : x ≡ d = nat_same x d here in absurd (omega (arith, same, this, less))
  by true e found (inr later) further = let same : x ≡ b = cc in let above : x < d = less_nat x d (all_has (λ y. nat_cmp x y ≡ Less) row d up.0 (from-in row d later)) in absurd (omega (arith, same, above, less))
  by false e found (inl here) further = subst (λ n. p n ≡ false) (nat_same x d here) e
  by false e found (inr later) further = further found d later less

row_of_none : (rows : List (List ℕ)) (a : ℕ) (p : ℕ → Bool) (b : ℕ) → find p (row_at rows a) ≡ Some b → a < length rows
row_of_none [] a p b found = absurd (cc)
row_of_none (row ∷ rows) zero p b found = omega arith
row_of_none (row ∷ rows) (suc a) p b found = let less = row_of_none rows a p b found in omega (arith, less)

-- ---- ways

chain_map : {X Y : Type 0} (step : X → X → Type 0) (other : Y → Y → Type 0) (e : X → Y) → ((a b : X) → step a b → other (e a) (e b)) → (x : X) (xs : List X) → cycles.Chain step x xs → cycles.Chain other (e x) (map e xs)
chain_map step other e each x [] chain = tt
chain_map step other e each x (y ∷ xs) chain = (each x y chain.0, chain_map step other e each y xs chain.1)

way_map : {X Y : Type 0} (begins : X → Type 0) (starts : Y → Type 0) (step : X → X → Type 0) (other : Y → Y → Type 0) (e : X → Y) → ((a : X) → begins a → starts (e a)) → ((a b : X) → step a b → other (e a) (e b)) → (xs : List X) → cycles.IsWay begins step xs → cycles.IsWay starts other (map e xs)
way_map begins starts step other e first each [] way = tt
way_map begins starts step other e first each (x ∷ xs) way = (first x way.0, chain_map step other e each x xs way.1)

map-append : {X Y : Type 0} (f : X → Y) (xs ys : List X) → map f (xs ++ ys) ≡ map f xs ++ map f ys
map-append f [] ys = refl
map-append f (x ∷ xs) ys = ap (λ zs. f x ∷ zs) (map-append f xs ys)

way_below : (count : ℕ) (rows : List (List ℕ)) (left : ℕ → Bool) → ((n : ℕ) → left n ≡ true → n < count) → (xs : List ℕ) → IsWayOn rows left xs → AreBelow count xs
way_below count rows left within [] way = tt
way_below count rows left within (x ∷ xs) way = (within x way.0.passes, chain x xs way.1) where
  chain : (a : ℕ) (ys : List ℕ) → cycles.Chain (StepsOn rows left) a ys → AreBelow count ys
  chain a [] steps = tt
  chain a (y ∷ ys) steps = (within y (found_in left (row_at rows a) y steps.0).1, chain y ys steps.1)

pub front_below : (count : ℕ) (xs ys : List ℕ) → AreBelow count (xs ++ ys) → AreBelow count xs
front_below count [] ys below = tt
front_below count (x ∷ xs) ys below = (below.0, front_below count xs ys below.1)

back_below : (count : ℕ) (xs ys : List ℕ) → AreBelow count (xs ++ ys) → AreBelow count ys
back_below count [] ys below = below
back_below count (x ∷ xs) ys below = back_below count xs ys below.1

-- ---- what can be taken away

pub within_taken : (nodes : List Node) (other : TaskId → Bool) → cycles.TakesAway nodes other → (before ids : List TaskId) → Follow nodes before ids → ((id : TaskId) → has before id ≡ true → other id ≡ true) → (id : TaskId) → has ids id ≡ true → other id ≡ true
unfolding is_open
within_taken nodes other takes before [] follow was id is = absurd (false≢true is)
within_taken nodes other takes before (x ∷ ids) follow was id is = by (or_cases (is_at (id_cmp id) x) (has ids id) is) (within_taken nodes other takes (before ++ x ∷ []) ids follow.1 more id) where
  open_x : (is_in_graph nodes x && (not (has before x) && list_all (has before) (deps_of nodes x))) ≡ true
  open_x = follow.0.passes

  all : (ds : List TaskId) → list_all (has before) ds ≡ true → list_all other ds ≡ true
  all [] each = refl
  all (d ∷ ds) each = rw (was d (and_first (has before d) (list_all (has before) ds) each)) (all ds (and_second (has before d) (list_all (has before) ds) each))

  taken_x : other x ≡ true
  taken_x = takes x (and_first (is_in_graph nodes x) (not (has before x) && list_all (has before) (deps_of nodes x)) open_x) (all (deps_of nodes x) (and_second (not (has before x)) (list_all (has before) (deps_of nodes x)) (and_second (is_in_graph nodes x) (not (has before x) && list_all (has before) (deps_of nodes x)) open_x)))

  more : (y : TaskId) → has (before ++ x ∷ []) y ≡ true → other y ≡ true
  more y among = split (or_cases (has before y) (has (x ∷ []) y) (sym (has-append before (x ∷ []) y) ∙ among)) where
    single : (t : Bool) → (t || false) ≡ true → t ≡ true
    single true e = refl
    single false e = e

    split : (has before y ≡ true) ⊎ (has (x ∷ []) y ≡ true) → other y ≡ true
    split (inl old) = was y old
    split (inr new) = subst (λ z. other z ≡ true) (sym (at_same y x (single (is_at (id_cmp y) x) new))) taken_x

  by : (is_at (id_cmp id) x ≡ true) ⊎ (has ids id ≡ true) → (has ids id ≡ true → other id ≡ true) → other id ≡ true
  by (inl here) further = subst (λ z. other z ≡ true) (sym (at_same id x here)) taken_x
  by (inr later) further = further later

module _ (nodes : List Node) (w : IsWhole nodes) (rows : List (List ℕ)) (are : AreRows rows) (num : IsNumbered nodes rows) (order : List ℕ) (slots : List Slot) (sorted : IsSorted rows order slots) where
  is_taken : (i : ℕ) → i < length nodes → has (map (id_at nodes) order) (id_at nodes i) ≡ is_in order i
  is_taken i less = has_map nodes w order (order_below nodes w rows are num order slots sorted) i less

  pub are_taken : cycles.AreTaken nodes (has (map (id_at nodes) order))
  are_taken = (closed, λ other takes id is. within_taken nodes other takes [] (map (id_at nodes) order) (follow_is nodes w rows are num [] order tt sorted.follow) (λ x none. absurd (false≢true none)) id is) where
    closed : cycles.TakesAway nodes (has (map (id_at nodes) order))
    closed id among all = by (number_of nodes w id among) where
      by : (i : ℕ) × (i < length nodes) × (id_at nodes i ≡ id) → has (map (id_at nodes) order) id ≡ true
      by (i, less, is) =
          let each : list_all (has (map (id_at nodes) order)) (map (id_at nodes) (row_at rows i)) ≡ true = subst (λ ds. list_all (has (map (id_at nodes) order)) ds ≡ true) (deps_are nodes w rows are num i less) (subst (λ x. list_all (has (map (id_at nodes) order)) (deps_of nodes x) ≡ true) (sym is) all) in
          let there : is_in order i ≡ true = sym (in_order nodes w rows are num order slots sorted i less) ∙ (sym (all_map nodes w order (row_at rows i) (order_below nodes w rows are num order slots sorted) (row_below nodes w rows are num i)) ∙ each) in
          subst (λ x. has (map (id_at nodes) order) x ≡ true) is (is_taken i less ∙ there)

  left_at : (i : ℕ) → i < length nodes → cycles.is_left nodes (has (map (id_at nodes) order)) (id_at nodes i) ≡ is_left slots i
  unfolding cycles.is_left
  left_at i less = (λ j. in_graph_at nodes w i less j && not (is_taken i less j)) ∙ sym (left_is nodes w rows are num order slots sorted i less)

  never_left : (id : TaskId) → is_in_graph nodes id ≡ false → cycles.is_left nodes (has (map (id_at nodes) order)) id ≡ false
  unfolding cycles.is_left
  never_left id none = rw none refl

  within : (n : ℕ) → is_left slots n ≡ true → n < length nodes
  within n left = let less = left_within slots n left in omega (arith, less, sorted.same, num.same)

  begins : (n : ℕ) → IsLeastNumber (is_left slots) n → IsFirst (cycles.is_left nodes (has (map (id_at nodes) order))) (id_at nodes n)
  begins n least = record {
    passes = left_at n inside ∙ least.passes;
    least = λ other less. by other less (is_in_graph nodes other) refl;
  } where
    inside : n < length nodes
    inside = within n least.passes

    by : (other : TaskId) → id_cmp other (id_at nodes n) ≡ Less → (t : Bool) → is_in_graph nodes other ≡ t → cycles.is_left nodes (has (map (id_at nodes) order)) other ≡ false
    by other less true is =
        let found = number_of nodes w other is in
        let before : found.0 < n = less_back nodes w.ascend found.0 n found.1 inside (subst (λ x. id_cmp x (id_at nodes n) ≡ Less) (sym found.2) less) in
        subst (λ x. cycles.is_left nodes (has (map (id_at nodes) order)) x ≡ false) found.2 (left_at found.0 found.1 ∙ least.least found.0 before)
    by other less false none = never_left other none

  steps : (a b : ℕ) → StepsOn rows (is_left slots) a b → cycles.Steps nodes (has (map (id_at nodes) order)) (id_at nodes a) (id_at nodes b)
  steps a b found = record {
    passes = λ j. (deps_has b inside ∙ (found_in (is_left slots) (row_at rows a) b found).0) j && (left_at b inside ∙ (found_in (is_left slots) (row_at rows a) b found).1) j;
    least = λ other less. by other less (has (deps_of nodes (id_at nodes a)) other) refl;
  } where
    from : a < length nodes
    from = let less = row_of_none rows a (is_left slots) b found in omega (arith, less, num.same)

    inside : b < length nodes
    inside = within b (found_in (is_left slots) (row_at rows a) b found).1

    deps_has : (d : ℕ) → d < length nodes → has (deps_of nodes (id_at nodes a)) (id_at nodes d) ≡ is_in (row_at rows a) d
    deps_has d less = ap (λ ds. has ds (id_at nodes d)) (deps_are nodes w rows are num a from) ∙ has_map nodes w (row_at rows a) (row_below nodes w rows are num a) d less

    by : (other : TaskId) → id_cmp other (id_at nodes b) ≡ Less → (t : Bool) → has (deps_of nodes (id_at nodes a)) other ≡ t → (has (deps_of nodes (id_at nodes a)) other && cycles.is_left nodes (has (map (id_at nodes) order)) other) ≡ false
    by other less true is =
        let one = mapped nodes w (row_at rows a) other (sym (ap (λ ds. has ds other) (deps_are nodes w rows are num a from)) ∙ is) in
        let low : one.0 < length nodes = below_member nodes w (row_at rows a) (row_below nodes w rows are num a) one.0 one.1 in
        let before : one.0 < b = less_back nodes w.ascend one.0 b low inside (subst (λ x. id_cmp x (id_at nodes b) ≡ Less) (sym one.2) less) in
        let none : is_left slots one.0 ≡ false = found_least (is_left slots) (row_at rows a) b (row_up rows are.ascend a) found one.0 one.1 before in
        rw is (subst (λ x. cycles.is_left nodes (has (map (id_at nodes) order)) x ≡ false) one.2 (left_at one.0 low ∙ none))
    by other less false none = rw none refl

  apart : (ns : List ℕ) → AreBelow (length nodes) ns → AreOnce ns → cycles.AreApart (map (id_at nodes) ns)
  apart [] below once = tt
  apart (n ∷ ns) below once = (has_map nodes w ns below.1 n below.0 ∙ once.0, apart ns below.1 once.1)

  way_within : (cycle : List ℕ) (circles : Circles rows (is_left slots) cycle) → AreBelow (length nodes) (circles.front ++ circles.first ∷ circles.rest)
  way_within cycle circles = front_below (length nodes) (circles.front ++ circles.first ∷ circles.rest) (circles.first ∷ []) (way_below (length nodes) rows (is_left slots) within ((circles.front ++ circles.first ∷ circles.rest) ++ circles.first ∷ []) circles.way)

  pub cycle_below : (cycle : List ℕ) → Circles rows (is_left slots) cycle → AreBelow (length nodes) cycle
  cycle_below cycle circles = subst (AreBelow (length nodes)) (sym circles.is) (back_below (length nodes) circles.front (circles.first ∷ circles.rest) (way_within cycle circles))

  pub cycle_is : (cycle : List ℕ) (ids : List TaskId) → Circles rows (is_left slots) cycle → ids ≡ map (id_at nodes) cycle → cycles.IsCycle nodes ids
  cycle_is cycle ids circles is = record {
    taken = has (map (id_at nodes) order);
    are_taken = are_taken;
    front = map (id_at nodes) circles.front;
    first = id_at nodes circles.first;
    rest = map (id_at nodes) circles.rest;
    is = is ∙ ap (map (id_at nodes)) circles.is;
    way = subst (cycles.IsWay (IsFirst (cycles.is_left nodes (has (map (id_at nodes) order)))) (cycles.Steps nodes (has (map (id_at nodes) order))))
        (map-append (id_at nodes) (circles.front ++ circles.first ∷ circles.rest) (circles.first ∷ []) ∙ ap (λ xs. xs ++ id_at nodes circles.first ∷ []) (map-append (id_at nodes) circles.front (circles.first ∷ circles.rest)))
        (way_map (IsLeastNumber (is_left slots)) (IsFirst (cycles.is_left nodes (has (map (id_at nodes) order)))) (StepsOn rows (is_left slots)) (cycles.Steps nodes (has (map (id_at nodes) order))) (id_at nodes) begins steps ((circles.front ++ circles.first ∷ circles.rest) ++ circles.first ∷ []) circles.way);
    apart = subst cycles.AreApart (map-append (id_at nodes) circles.front (circles.first ∷ circles.rest)) (apart (circles.front ++ circles.first ∷ circles.rest) (way_within cycle circles) circles.apart);
  }
