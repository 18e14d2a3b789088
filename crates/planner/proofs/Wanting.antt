-- The wanted tasks, by the plan order.
use Rattle.std.proofs.Common.{◌≡◌, ◌≢◌, ◌&&◌, ◌||◌, ◌==◌, ◌+◌, ◌<◌, ◌≤◌, ℕ, Bool, true, false, not, cond, List, [], ◌∷◌, ◌++◌, length, get_or, take, map, refl, sym, ap, ◌∙◌, subst, arith, nat_lt}
use Rattle.std.specs.Prelude.{Option, Some, None, is_some, zip, slice_index_or}
use Rattle.std.specs.List.{AllByRecursion, AllPairs}
use Rattle.std.specs.List.Sorted.{IsStrictlySortedBy}
use Rattle.std.specs.declared.cmp.Ordering.TheVariants.{Less}
use Rattle.std.specs.Ordering.{nat_cmp, MatchOrdering}
use Rattle.std.specs.Cmp.{ranks}
use Rattle.std.proofs.lemmas.Bool.{false≢true}
use Rattle.std.proofs.lemmas.Bool.Decides.{nat_tests}
use Rattle.std.proofs.lemmas.List.{get_or-map, length-map, take_more, take_all}
use Rattle.workspaces.specs.declared.member.Package.{Package}
use Rattle.workspaces.specs.Space.{Space, owner_named}
use Rattle.workspaces.specs.Reach.{AreBelow, is_in}
use Rattle.workspaces.proofs.Owners.{owner_name}
use Rattle.filters.specs.Selection.{AreSelectedBy, is_included, is_excluded}
use Rattle.task_definitions.specs.Setup.{Setup, task_def}
use Rattle.turbo_config.specs.declared.task_id.TaskId.{TaskId}
use Rattle.task_graph.specs.declared.plan.PlanList.{PlanList}
use Rattle.task_graph.specs.Ids.{has}
use Rattle.task_graph.specs.Tasks.{has_def, is_task}
use Rattle.spawn_dev.specs.Orders.{IsAscending}
use Rattle.collect.specs.Tasks.{IsDefined}
use Rattle.collect.specs.declared.wanted.Wanted.{Wanted}
use Rattle.collect.proofs.Lists.{get_zip, length_zip}
use Rattle.planner.specs.Wanted.{wanted_at, wanted_of}
use Rattle.planner.specs.Steps.{AreInOrder}

and_first : (a b : Bool) → (a && b) ≡ true → a ≡ true
and_first true b e = refl
and_first false b e = absurd (false≢true e)

and_second : (a b : Bool) → (a && b) ≡ true → b ≡ true
and_second true b e = e
and_second false b e = absurd (false≢true e)

-- ---- tasks that are there

found_some : {X : Type 0} (o : Option X) → is_some o ≡ true → (x : X) × (o ≡ Some x)
found_some None e = absurd (false≢true e)
found_some (Some x) e = (x, refl)

pub is_defined : (space : Space) (setup : Setup) (id : TaskId) → is_task space setup id ≡ true → IsDefined setup space id
is_defined space setup id is =
    let member = found_some (owner_named space id.«package») (and_first (is_some (owner_named space id.«package»)) (has_def setup id) is) in
    let def = found_some (task_def setup id.«package» id.task) (and_second (is_some (owner_named space id.«package»)) (has_def setup id) is) in
    record {
      member = member.0;
      stands = member.1;
      def = def.0;
      defined = subst (λ (name : List ℕ). task_def setup name id.task ≡ Some def.0) (sym (owner_name space id.«package» member.0 member.1)) def.1;
    }

pub has_def_of : (space : Space) (setup : Setup) (id : TaskId) → is_task space setup id ≡ true → has_def setup id ≡ true
has_def_of space setup id is = and_second (is_some (owner_named space id.«package»)) (has_def setup id) is

pub all_defined : (space : Space) (setup : Setup) (ids : List TaskId) → AllByRecursion (λ id. is_task space setup id ≡ true) ids → AllByRecursion (λ id. has_def setup id ≡ true) ids
all_defined space setup [] all = tt
all_defined space setup (id ∷ ids) all = (has_def_of space setup id all.0, all_defined space setup ids all.1)

-- ---- what is wanted, task by task

abbrev by_pairs : List TaskId → List (List ℕ) → List TaskId → List (List ℕ) → List Wanted
by_pairs entries args ids deps = map (λ pair. wanted_at entries args pair.0 pair.1) (zip ids deps)

module _ (entries : List TaskId) (args : List (List ℕ)) where
  ids_are : (ids : List TaskId) (deps : List (List ℕ)) → length deps ≡ length ids → map (λ (w : Wanted). w.id) (by_pairs entries args ids deps) ≡ ids
  ids_are [] deps same = refl
  ids_are (id ∷ ids) [] same = absurd (omega (arith, same))
  ids_are (id ∷ ids) (row ∷ deps) same = ap (λ xs. id ∷ xs) (ids_are ids deps (omega (arith, same)))

  deps_are : (ids : List TaskId) (deps : List (List ℕ)) → length deps ≡ length ids → map (λ (w : Wanted). w.deps) (by_pairs entries args ids deps) ≡ deps
  deps_are [] [] same = refl
  deps_are [] (row ∷ deps) same = absurd (omega (arith, same))
  deps_are (id ∷ ids) [] same = absurd (omega (arith, same))
  deps_are (id ∷ ids) (row ∷ deps) same = ap (λ xs. row ∷ xs) (deps_are ids deps (omega (arith, same)))

  pub wanted_ids : (list : PlanList) → length list.deps ≡ length list.ids → map (λ (w : Wanted). w.id) (wanted_of entries args list) ≡ list.ids
  wanted_ids list same = ids_are list.ids list.deps same

  pub wanted_deps : (list : PlanList) → length list.deps ≡ length list.ids → map (λ (w : Wanted). w.deps) (wanted_of entries args list) ≡ list.deps
  wanted_deps list same = deps_are list.ids list.deps same

  pub wanted_length : (list : PlanList) → length list.deps ≡ length list.ids → length (wanted_of entries args list) ≡ length list.ids
  wanted_length list same = sym (length-map (wanted_of entries args list) (λ (w : Wanted). w.id)) ∙ ap length (wanted_ids list same)

-- one wanted task more
module _ (entries : List TaskId) (args : List (List ℕ)) (list : PlanList) (same : length list.deps ≡ length list.ids) where
  abbrev at_pair : TaskId × List ℕ → Wanted
  at_pair pair = wanted_at entries args pair.0 pair.1

  pub wanted_more : (place : ℕ) (id : TaskId) (deps : List ℕ) (wanted : Wanted) → place < length list.ids → id ≡ get_or list.ids place id → deps ≡ get_or list.deps place deps → wanted ≡ wanted_at entries args id deps
      → take place (wanted_of entries args list) ++ wanted ∷ [] ≡ take (place + 1) (wanted_of entries args list)
  wanted_more place id deps wanted less id_is deps_are is =
      let pair : get_or (zip list.ids list.deps) place (id, deps) ≡ (id, deps) = get_zip list.ids list.deps place id deps less (omega (arith, less, same)) ∙ (λ j. (sym id_is j, sym deps_are j)) in
      let row : get_or (wanted_of entries args list) place wanted ≡ wanted = get_or-map at_pair (zip list.ids list.deps) place (id, deps) wanted (omega (arith, less, length_zip list.ids list.deps (sym same), same)) ∙ (ap at_pair pair ∙ sym is) in
      sym (take_more (wanted_of entries args list) place wanted (omega (arith, less, wanted_length entries args list same)) ∙ ap (λ w. take place (wanted_of entries args list) ++ w ∷ []) row)

  pub wanted_whole : (place : ℕ) → length list.ids ≤ place → take place (wanted_of entries args list) ≡ wanted_of entries args list
  wanted_whole place most = take_all place (wanted_of entries args list) (omega (arith, most, wanted_length entries args list same))

-- lists with the same tasks say the same
pub wanted_same : (some other : List TaskId) → ((id : TaskId) → has some id ≡ has other id) → (args : List (List ℕ)) (list : PlanList) → wanted_of some args list ≡ wanted_of other args list
wanted_same some other same args list = by (zip list.ids list.deps) where
  by : (pairs : List (TaskId × List ℕ)) → map (λ pair. wanted_at some args pair.0 pair.1) pairs ≡ map (λ pair. wanted_at other args pair.0 pair.1) pairs
  by [] = refl
  by (pair ∷ pairs) = λ j. wanted_row j ∷ by pairs j where
    wanted_row : wanted_at some args pair.0 pair.1 ≡ wanted_at other args pair.0 pair.1
    wanted_row = λ j. record { id = pair.0; args = cond (same pair.0 j) args []; deps = pair.1 }

-- ---- in order

less_nat : (a b : ℕ) → nat_cmp a b ≡ Less → a < b
less_nat a b less = subst (λ r. MatchOrdering r (a < b) (a ≡ b) (b < a)) less (ranks a b)

ascending : (xs : List ℕ) → IsStrictlySortedBy nat_cmp xs → IsAscending (λ a b. a < b) xs
unfolding IsStrictlySortedBy
ascending [] up = tt
ascending (x ∷ xs) up = (by xs up.0, ascending xs up.1) where
  by : (ys : List ℕ) → AllByRecursion (λ y. nat_cmp x y ≡ Less) ys → AllByRecursion (λ y. x < y) ys
  by [] all = tt
  by (y ∷ ys) all = (less_nat x y all.0, by ys all.1)

all_from_map : {X Y : Type 0} (f : X → Y) (P : Y → Type 0) (xs : List X) → AllByRecursion P (map f xs) → AllByRecursion (λ x. P (f x)) xs
all_from_map f P [] all = tt
all_from_map f P (x ∷ xs) all = (all.0, all_from_map f P xs all.1)

all_through : {X : Type 0} (P Q : X → Type 0) → ((x : X) → P x → Q x) → (xs : List X) → AllByRecursion P xs → AllByRecursion Q xs
all_through P Q f [] all = tt
all_through P Q f (x ∷ xs) all = (f x all.0, all_through P Q f xs all.1)

module _ (space : Space) (setup : Setup) (list : PlanList) (wanted : List Wanted)
    (ids : map (λ (w : Wanted). w.id) wanted ≡ list.ids) (deps : map (λ (w : Wanted). w.deps) wanted ≡ list.deps)
    (tasks : AllByRecursion (λ id. is_task space setup id ≡ true) list.ids) (apart : AllPairs (λ a b. a ≢ b) list.ids)
    (lower : (place : ℕ) → AllByRecursion (λ d. d < place) (slice_index_or list.deps place [])) (ascend : AllByRecursion (IsStrictlySortedBy nat_cmp) list.deps) where
  differ : AllPairs (λ (v : Wanted) (w : Wanted). v.id ≢ w.id) wanted
  differ i j d before less =
      let now : AllPairs (λ a b. a ≢ b) (map (λ (w : Wanted). w.id) wanted) = subst (AllPairs (λ a b. a ≢ b)) (sym ids) apart in
      let here = now i j d.id before (omega (arith, less, length-map wanted (λ (w : Wanted). w.id))) in
      λ same. here (get_or-map (λ (w : Wanted). w.id) wanted i d d.id (omega (arith, before, less)) ∙ (same ∙ sym (get_or-map (λ (w : Wanted). w.id) wanted j d d.id less)))

  pub in_order : AreInOrder setup space wanted
  in_order = record {
    tasks = all_from_map (λ (w : Wanted). w.id) (IsDefined setup space) wanted (subst (AllByRecursion (IsDefined setup space)) (sym ids) (all_through (λ id. is_task space setup id ≡ true) (IsDefined setup space) (is_defined space setup) list.ids tasks));
    ids = differ;
    lower = λ place. subst (λ rows. AllByRecursion (λ d. d < place) (slice_index_or rows place [])) (sym deps) (lower place);
    deps = all_from_map (λ (w : Wanted). w.deps) (IsAscending (λ a b. a < b)) wanted (subst (AllByRecursion (IsAscending (λ a b. a < b))) (sym deps) (all_through (IsStrictlySortedBy nat_cmp) (IsAscending (λ a b. a < b)) ascending list.deps ascend));
  }

-- ---- the selected packages are there

or_right : (a b : Bool) → b ≡ true → (a || b) ≡ true
or_right true b e = refl
or_right false b e = e

itself : (x : ℕ) (t : Bool) → ((x == x) || t) ≡ true
itself x t = let same : (x == x) ≡ true = grind (arith, nat_tests) in rw same refl

all_in : (bound : ℕ) (xs : List ℕ) → ((p : ℕ) → is_in xs p ≡ true → p < bound) → AreBelow bound xs
all_in bound [] each = tt
all_in bound (x ∷ xs) each = (each x (itself x (is_in xs x)), all_in bound xs (λ p is. each p (or_right (x == p) (is_in xs p) is)))

pub selected_below : (packages : List Package) (words : List (List ℕ)) (found : List ℕ) → AreSelectedBy packages words found → AreBelow (length packages) found
selected_below packages words found is = all_in (length packages) found (λ p among. below p (and_first (nat_lt p (length packages)) (is_included is.selected.takings p && not (is_excluded is.selected.takings p)) (sym (is.selected.exact p) ∙ among))) where
  below : (p : ℕ) → nat_lt p (length packages) ≡ true → p < length packages
  below p e = grind (arith, nat_tests, e)
