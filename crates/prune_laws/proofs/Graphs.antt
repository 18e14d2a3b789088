-- A task graph in plan order, with the listing of its tasks, is laid out by what the tasks depend on.
use Rattle.std.proofs.Common.{◌≡◌, ◌⊎◌, ◌&&◌, ◌<◌, ℕ, zero, suc, Bool, true, false, cond, not, List, [], ◌∷◌, ◌++◌, Option, Some, None, map, zip, refl, sym, ap, ◌∙◌, subst, inl, inr, append_assoc, append-nil}
use Rattle.std.specs.Prelude.{Result, Ok, Err, slice_get, slice_index_or}
use Rattle.std.specs.List.{list_all, AllByRecursion}
use Rattle.std.specs.declared.cmp.Ordering.{Ordering}
use Rattle.std.specs.declared.cmp.Ordering.TheVariants.{Less, Equal, Greater}
use Rattle.std.specs.Ordering.{ordering_then}
use Rattle.std.specs.Cmp.{IsTotalOrder}
use Rattle.std.specs.Cmp.Lexicographic.{nat_list_cmp_total}
use Rattle.std.specs.BTreeMap.{is_at}
use Rattle.std.proofs.lemmas.Bool.{or_cases, or_left, or_right, and_parts, false≢true, false_from_ne_true}
use Rattle.std.proofs.lemmas.Cmp.{then_total, on_total}
use Rattle.std.proofs.lemmas.Map.Lookups.{exact_bytes}
use Rattle.rel_path.specs.Paths.{name_cmp}
use Rattle.turbo_config.specs.declared.task_id.TaskId.{TaskId}
use Rattle.task_definitions.specs.Setup.{Setup}
use Rattle.workspaces.specs.Lists.{Has, places}
use Rattle.workspaces.specs.Space.{Space}
use Rattle.task_graph.specs.declared.error.GraphErr.{GraphErr}
use Rattle.task_graph.specs.declared.node.Node.{Node}
use Rattle.task_graph.specs.declared.plan.PlanList.{PlanList}
use Rattle.task_graph.specs.Ids.{id_cmp, has}
use Rattle.task_graph.specs.Nodes.{ids_of, is_in_graph, deps_of}
use Rattle.task_graph.specs.Edges.{edges, first_refused}
use Rattle.task_graph.specs.Graphs.{AreTasks, node_by, and_nodes, nodes_of}
use Rattle.task_graph.specs.Plans.{is_open, Follow, IsPlan, places_of}
use Rattle.listing.specs.declared.part.Part.{Part}
use Rattle.listing.specs.declared.part.Listing.{Listing}
use Rattle.run_laws.specs.Ancestors.{part_at, blank, IsLower}
use Rattle.collect.specs.declared.wanted.Wanted.{Wanted}
use Rattle.collect.specs.Listings.{ArePaired}
use Rattle.planner.specs.Wanted.{wanted_at, wanted_of}
use Rattle.prune_facts.proofs.Lists.{not_from, none≢some}
use Rattle.prune_facts.proofs.Following.{Follows, at_is, has_among, among_has}
use Rattle.prune_facts.proofs.Picking.{AreApart}
use Rattle.prune_facts.proofs.Pairing.{pairs_at, pairs_past, pairs_within, pairs-map}
use Rattle.prune_facts.proofs.Laying.{IsRow, IsLaid}

-- ---- the order of tasks

pub id_total : IsTotalOrder id_cmp
id_total = then_total (on_total (λ (id : TaskId). id.«package») nat_list_cmp_total) (on_total (λ (id : TaskId). id.task) nat_list_cmp_total)

pub id_tied : (a b : TaskId) → id_cmp a b ≡ Equal → a ≡ b
id_tied a b e =
    let p = exact_bytes a.«package» b.«package» (first (name_cmp a.«package» b.«package») (name_cmp a.task b.task) e) in
    let q = exact_bytes a.task b.task (second (name_cmp a.«package» b.«package») (name_cmp a.task b.task) e) in
    λ j. record { «package» = p j; task = q j }
  where
    first : (r s : Ordering) → ordering_then r s ≡ Equal → r ≡ Equal
    first Less s k = k
    first Equal s k = refl
    first Greater s k = k

    second : (r s : Ordering) → ordering_then r s ≡ Equal → s ≡ Equal
    second Less s k = cc
    second Equal s k = k
    second Greater s k = cc

has_of : (ids : List TaskId) (id : TaskId) → Has ids id → has ids id ≡ true
has_of ids id h = has_among id_cmp id_total id_tied ids id h

of_has : (ids : List TaskId) (id : TaskId) → has ids id ≡ true → Has ids id
of_has ids id h = among_has id_cmp id_total id_tied ids id h

-- ---- the nodes

module _ (space : Space) (setup : Setup) where
  abbrev node : TaskId → Node
  node id = record { id = id; deps = edges space setup id }

  nodes_are : (ids : List TaskId) (nodes : List Node) → nodes_of space setup ids ≡ Ok nodes → nodes ≡ map node ids
  nodes_are [] nodes e = let s : nodes ≡ [] = cc in s
  nodes_are (id ∷ ids) nodes e = by (first_refused space setup id) (nodes_of space setup ids) refl e (nodes_are ids)
    where
      by : (o : Option (List ℕ)) (r : Result (List Node) GraphErr) → nodes_of space setup ids ≡ r → and_nodes (node_by o id (edges space setup id)) r ≡ Ok nodes → ((more : List Node) → nodes_of space setup ids ≡ Ok more → more ≡ map node ids) → nodes ≡ map node (id ∷ ids)
      by None (Ok more) k l rest = let s : nodes ≡ node id ∷ more = cc in s ∙ ap (λ ns. node id ∷ ns) (rest more k)
      by None (Err fault) k l rest = absurd (cc)
      by (Some text) r k l rest = absurd (cc)

  ids_are : (ids : List TaskId) → ids_of (map node ids) ≡ ids
  ids_are [] = refl
  ids_are (id ∷ ids) = ap (λ xs. id ∷ xs) (ids_are ids)

  deps_are : (ids : List TaskId) (id : TaskId) → has ids id ≡ true → deps_of (map node ids) id ≡ edges space setup id
  unfolding deps_of
  deps_are [] id h = absurd (false≢true h)
  deps_are (x ∷ ids) id h = by (is_at (id_cmp id) x) refl (or_cases (is_at (id_cmp id) x) (has ids id) h) (deps_are ids id)
    where
      by : (b : Bool) → is_at (id_cmp id) x ≡ b → (is_at (id_cmp id) x ≡ true) ⊎ (has ids id ≡ true) → (has ids id ≡ true → deps_of (map node ids) id ≡ edges space setup id) → cond b (edges space setup x) (deps_of (map node ids) id) ≡ edges space setup id
      by true e u rest = ap (edges space setup) (sym (at_is id_cmp id_total id_tied id x e))
      by false e (inl u) rest = absurd (false≢true (sym e ∙ u))
      by false e (inr u) rest = rest u

-- a plan order
module _ (nodes : List Node) where
  opens : (before : List TaskId) (id : TaskId) → is_open nodes before id ≡ true → (is_in_graph nodes id ≡ true) × (has before id ≡ false)
  unfolding is_open
  opens before id h = let p = and_parts (is_in_graph nodes id) _ h in (p.0, not_from (has before id) (and_parts (not (has before id)) _ p.1).0)

  follows : (before ids : List TaskId) → Follow nodes before ids → ((id : TaskId) → is_open nodes (before ++ ids) id ≡ false) → Follows id_cmp (is_open nodes) before ids
  follows before [] f ends = λ id. ap (λ xs. is_open nodes xs id) (sym (append-nil before)) ∙ ends id
  follows before (x ∷ ids) f ends = ((f.0.passes, f.0.least), follows (before ++ x ∷ []) ids f.1 (λ id. ap (λ xs. is_open nodes xs id) (append_assoc before (x ∷ []) ids) ∙ ends id))

  in_graph : (before ids : List TaskId) (id : TaskId) → Follow nodes before ids → Has ids id → is_in_graph nodes id ≡ true
  in_graph before [] id f h = absurd h
  in_graph before (x ∷ ids) id f (inl e) = ap (is_in_graph nodes) (sym e) ∙ (opens before x f.0.passes).0
  in_graph before (x ∷ ids) id f (inr h) = in_graph (before ++ x ∷ []) ids id f.1 h

  pushed : (before : List TaskId) (x id : TaskId) → (has before id ≡ true) ⊎ (x ≡ id) → has (before ++ x ∷ []) id ≡ true
  pushed [] x id (inl h) = absurd (false≢true h)
  pushed [] x id (inr e) = has_of (x ∷ []) id (inl e)
  pushed (y ∷ before) x id (inl h) = elim (or_cases (is_at (id_cmp id) y) (has before id) h) [
    | inl a ↦ or_left (is_at (id_cmp id) y) _ a
    | inr b ↦ or_right (is_at (id_cmp id) y) _ (pushed before x id (inl b))
  ]
  pushed (y ∷ before) x id (inr e) = or_right (is_at (id_cmp id) y) _ (pushed before x id (inr e))

  fresh : (before ids : List TaskId) (id : TaskId) → Follow nodes before ids → has before id ≡ true → Has ids id → ⊥
  fresh before [] id f b h = h
  fresh before (x ∷ ids) id f b (inl e) = false≢true (sym (opens before x f.0.passes).1 ∙ ap (has before) e ∙ b)
  fresh before (x ∷ ids) id f b (inr h) = fresh (before ++ x ∷ []) ids id f.1 (pushed before x id (inl b)) h

  apart_after : (before ids : List TaskId) → Follow nodes before ids → AreApart id_cmp id_total id_tied ids
  apart_after before [] f = tt
  apart_after before (x ∷ ids) f =
      (false_from_ne_true (has ids x) (λ h. fresh (before ++ x ∷ []) ids x f.1 (pushed before x x (inr refl)) (of_has ids x h)), apart_after (before ++ x ∷ []) ids f.1)

-- ---- the wanted tasks

zip-map : {X Y : Type 0} (f : X → Y) (xs : List X) → zip xs (map f xs) ≡ map (λ x. (x, f x)) xs
zip-map f [] = refl
zip-map f (x ∷ xs) = ap (λ ps. (x, f x) ∷ ps) (zip-map f xs)

map-map : {X Y Z : Type 0} (f : Y → Z) (g : X → Y) (xs : List X) → map f (map g xs) ≡ map (λ x. f (g x)) xs
map-map f g [] = refl
map-map f g (x ∷ xs) = ap (λ ys. f (g x) ∷ ys) (map-map f g xs)

get_map : {X Y : Type 0} (f : X → Y) (xs : List X) (j : ℕ) (x : X) (d : Y) → slice_get xs j ≡ Some x → slice_index_or (map f xs) j d ≡ f x
get_map f [] j x d e = absurd (none≢some x e)
get_map f (y ∷ ys) zero x d e = let s : y ≡ x = cc in ap f s
get_map f (y ∷ ys) (suc j) x d e = get_map f ys j x d e

-- what is wanted of a task of the plan
abbrev pub wants : List TaskId → List (List ℕ) → List Node → PlanList → TaskId → Wanted
wants entries args nodes list id = wanted_at entries args id (places_of nodes list.ids id)

pub wanted_are : (entries : List TaskId) (args : List (List ℕ)) (nodes : List Node) (list : PlanList) → IsPlan nodes list → wanted_of entries args list ≡ map (wants entries args nodes list) list.ids
wanted_are entries args nodes list planned =
    ap (λ deps. map (λ (pair : TaskId × List ℕ). wanted_at entries args pair.0 pair.1) (zip list.ids deps)) planned.deps
    ∙ ap (map (λ (pair : TaskId × List ℕ). wanted_at entries args pair.0 pair.1)) (zip-map (places_of nodes list.ids) list.ids)
    ∙ map-map (λ (pair : TaskId × List ℕ). wanted_at entries args pair.0 pair.1) (λ id. (id, places_of nodes list.ids id)) list.ids

module _ (space : Space) (setup : Setup) (starts ids : List TaskId) (nodes : List Node) (tasks : AreTasks space setup starts ids) (made : nodes_of space setup ids ≡ Ok nodes)
    (entries : List TaskId) (args : List (List ℕ)) (list : PlanList) (planned : IsPlan nodes list) (l : Listing) (R : Wanted → Part → Type 0) (row : (w : Wanted) (part : Part) → R w part → part.deps ≡ w.deps)
    (parts : ArePaired R (wanted_of entries args list) l.parts) where
  all_are : nodes ≡ map (node space setup) ids
  all_are = nodes_are space setup ids nodes made

  graph_is : (id : TaskId) → is_in_graph nodes id ≡ has ids id
  graph_is id = ap (λ ns. is_in_graph ns id) all_are ∙ ap (λ xs. has xs id) (ids_are space setup ids)

  planned_in : (id : TaskId) → Has list.ids id → has ids id ≡ true
  planned_in id h = sym (graph_is id) ∙ in_graph nodes [] list.ids id planned.order.follow h

  needs_are : (id : TaskId) → Has list.ids id → deps_of nodes id ≡ edges space setup id
  needs_are id h = ap (λ ns. deps_of ns id) all_are ∙ deps_are space setup ids id (planned_in id h)

  pub listed_parts : ArePaired (λ id part. R (wants entries args nodes list id) part) list.ids l.parts
  listed_parts = pairs-map R (wants entries args nodes list) list.ids l.parts (subst (λ ws. ArePaired R ws l.parts) (wanted_are entries args nodes list planned) parts)

  none_open : (id : TaskId) → is_open nodes list.ids id ≡ false
  none_open id = false_from_ne_true (is_open nodes list.ids id) (λ h. let o = opens nodes list.ids id h in false≢true (sym o.1 ∙ planned.order.whole id o.0))

  is_lower : IsLower l
  is_lower i = by (slice_get list.ids i) refl
    where
      by : (o : Option TaskId) → slice_get list.ids i ≡ o → AllByRecursion (λ d. d < i) (part_at l i).deps
      by None e = subst (λ (p : Part). AllByRecursion (λ d. d < i) p.deps) (sym (pairs_past (λ id part. R (wants entries args nodes list id) part) blank list.ids l.parts listed_parts i e)) tt
      by (Some x) e =
          subst (λ ds. AllByRecursion (λ d. d < i) ds)
          (ap (λ deps. slice_index_or deps i []) planned.deps ∙ get_map (places_of nodes list.ids) list.ids i x [] e ∙ sym (row (wants entries args nodes list x) (part_at l i) (pairs_at (λ id part. R (wants entries args nodes list id) part) blank list.ids l.parts listed_parts i x e)))
          (planned.lower i)

  pub laid_out : IsLaid id_cmp id_total id_tied (edges space setup) list.ids l
  unfolding is_open
  laid_out = record {
    apart = apart_after nodes [] list.ids planned.order.follow;
    closed = λ x y h n. of_has list.ids y (planned.order.whole y (graph_is y ∙ tasks.least.0.edge x y (planned_in x h) (has_of (edges space setup x) y n)));
    rows = pairs_within (λ id part. R (wants entries args nodes list id) part) (IsRow id_cmp (edges space setup) list.ids) list.ids l.parts
        (λ id part h r. row (wants entries args nodes list id) part r ∙ ap (λ deps. places (has deps) list.ids) (needs_are id h)) listed_parts;
    lower = is_lower;
    fits = is_open nodes;
    follow = follows nodes [] list.ids planned.order.follow none_open;
    fit = λ before x h. (λ j. graph_in x h j && (not (has before x) && list_all (has before) (needs_are x h j)));
  }
    where
      graph_in : (x : TaskId) → Has list.ids x → is_in_graph nodes x ≡ true
      graph_in x h = graph_is x ∙ planned_in x h
