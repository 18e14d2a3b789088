-- Tasks of a graph by their numbers.
use Rattle.std.proofs.Common.{◌≡◌, ◌+◌, ◌<◌, ℕ, zero, suc, List, [], ◌∷◌, ◌++◌, length, get_or, map, refl, sym, ap, ◌∙◌, subst, arith, ◌⊎◌, inl, inr}
use Rattle.std.specs.List.{AllByRecursion}
use Rattle.workspaces.specs.Reach.{AreBelow, row_at}
use Rattle.turbo_config.specs.declared.task_id.TaskId.{TaskId}
use Rattle.task_graph.specs.declared.node.Node.{Node}
use Rattle.std.specs.List.Sorted.{IsStrictlySortedBy}
use Rattle.std.specs.declared.cmp.Ordering.TheVariants.{Less, Equal}
use Rattle.std.specs.Ordering.{nat_cmp}
use Rattle.std.proofs.lemmas.Bool.{cases_order}
use Rattle.task_graph.specs.Ids.{id_cmp}
use Rattle.task_graph.specs.Nodes.{ids_of}
use Rattle.task_graph.specs.Rows.{id_at, deps_at}
use Rattle.task_graph.proofs.Ids.{id_total, id_tied, not_itself, not_twice}
use Rattle.workspaces.proofs.Lists.{nat_less}
use Rattle.task_graph.proofs.Searching.{rises}

pub id-get : (nodes : List Node) (i : ℕ) (d : Node) → i < length nodes → id_at nodes i ≡ (get_or nodes i d).id
id-get [] i d less = absurd (omega arith)
id-get (node ∷ nodes) zero d less = refl
id-get (node ∷ nodes) (suc i) d less = id-get nodes i d (omega arith)

pub map-more : {X Y : Type 0} (f : X → Y) (xs : List X) (x : X) → map f (xs ++ x ∷ []) ≡ map f xs ++ f x ∷ []
map-more f [] x = refl
map-more f (y ∷ xs) x = ap (λ ys. f y ∷ ys) (map-more f xs x)

pub below-more : (n : ℕ) (xs : List ℕ) (x : ℕ) → AreBelow n xs → x < n → AreBelow n (xs ++ x ∷ [])
below-more n [] x below less = (less, tt)
below-more n (y ∷ xs) x below less = (below.0, below-more n xs x below.1 less)

pub all-get : {X : Type 0} (P : X → Type 0) (xs : List X) → AllByRecursion P xs → (i : ℕ) (d : X) → i < length xs → P (get_or xs i d)
all-get P [] all i d less = absurd (omega arith)
all-get P (x ∷ xs) all zero d less = all.0
all-get P (x ∷ xs) all (suc i) d less = all-get P xs all.1 i d (omega arith)

pub tied_id : (nodes : List Node) (p : ℕ) (task : TaskId) → p < length nodes → ((d : Node) → id_cmp (get_or nodes p d).id task ≡ Equal) → id_at nodes p ≡ task
tied_id [] p task less tied = absurd (omega arith)
tied_id (node ∷ nodes) p task less tied = id-get (node ∷ nodes) p node less ∙ id_tied (get_or (node ∷ nodes) p node).id task (tied node)

-- numbers and tasks ascend together
pub id-less : (nodes : List Node) → IsStrictlySortedBy id_cmp (ids_of nodes) → (p q : ℕ) → p < q → q < length nodes → id_cmp (id_at nodes p) (id_at nodes q) ≡ Less
id-less [] up p q before less = absurd (omega arith)
id-less (node ∷ nodes) up p q before less =
    rw (id-get (node ∷ nodes) p node (omega arith), id-get (node ∷ nodes) q node less) (rises (λ (n : Node). n.id) id_cmp id_total id_tied (node ∷ nodes) up p q node before less)

pub less_back : (nodes : List Node) → IsStrictlySortedBy id_cmp (ids_of nodes) → (p q : ℕ) → p < length nodes → q < length nodes → id_cmp (id_at nodes p) (id_at nodes q) ≡ Less → p < q
less_back nodes up p q within inside less = by (cases_order p q) where
  by : (p ≡ q) ⊎ ((p < q) ⊎ (q < p)) → p < q
  by (inr (inl is)) = is
  by (inl same) = let self : id_cmp (id_at nodes q) (id_at nodes q) ≡ Less = subst (λ w. id_cmp (id_at nodes w) (id_at nodes q) ≡ Less) same less in absurd (not_itself (id_at nodes q) self)
  by (inr (inr more)) = absurd (not_twice (id_at nodes p) (id_at nodes q) less (id-less nodes up q p more within))

-- a row of tasks that ascend ascends
row_ascends : (nodes : List Node) → IsStrictlySortedBy id_cmp (ids_of nodes) → (row : List ℕ) → AreBelow (length nodes) row → IsStrictlySortedBy id_cmp (map (id_at nodes) row) → IsStrictlySortedBy nat_cmp row
unfolding IsStrictlySortedBy
row_ascends nodes up [] below ascends = tt
row_ascends nodes up (x ∷ xs) below ascends = (above xs below.1 ascends.0, row_ascends nodes up xs below.1 ascends.1) where
  above : (ys : List ℕ) → AreBelow (length nodes) ys → AllByRecursion (λ id. id_cmp (id_at nodes x) id ≡ Less) (map (id_at nodes) ys) → AllByRecursion (λ y. nat_cmp x y ≡ Less) ys
  above [] inside all = tt
  above (y ∷ ys) inside all = (nat_less x y (less_back nodes up x y below.0 inside.0 all.0), above ys inside.1 all.1)

pub rows_ascend : (nodes : List Node) → IsStrictlySortedBy id_cmp (ids_of nodes) → (some : List Node) (rows : List (List ℕ)) → AllByRecursion (λ node. IsStrictlySortedBy id_cmp node.deps) some → AllByRecursion (AreBelow (length nodes)) rows
    → map (map (id_at nodes)) rows ≡ map (λ (node : Node). node.deps) some → AllByRecursion (IsStrictlySortedBy nat_cmp) rows
rows_ascend nodes up [] [] all below same = tt
rows_ascend nodes up [] (row ∷ rows) all below same = absurd (cc)
rows_ascend nodes up (node ∷ some) [] all below same = tt
rows_ascend nodes up (node ∷ some) (row ∷ rows) all below same =
    let head : map (id_at nodes) row ≡ node.deps = cc in
    let tail : map (map (id_at nodes)) rows ≡ map (λ (n : Node). n.deps) some = cc in
    (row_ascends nodes up row below.0 (subst (λ ids. IsStrictlySortedBy id_cmp ids) (sym head) all.0), rows_ascend nodes up some rows all.1 below.1 tail)

pub rows_deps : (e : ℕ → TaskId) (some : List Node) (rows : List (List ℕ)) → map (map e) rows ≡ map (λ (node : Node). node.deps) some → (n : ℕ) → deps_at some n ≡ map e (row_at rows n)
rows_deps e [] [] same n = refl
rows_deps e [] (row ∷ rows) same n = absurd (cc)
rows_deps e (node ∷ some) [] same n = absurd (cc)
rows_deps e (node ∷ some) (row ∷ rows) same zero = cc
rows_deps e (node ∷ some) (row ∷ rows) same (suc n) = let tail : map (map e) rows ≡ map (λ (m : Node). m.deps) some = cc in rows_deps e some rows tail n

pub all-more : {X : Type 0} (P : X → Type 0) (xs : List X) (x : X) → AllByRecursion P xs → P x → AllByRecursion P (xs ++ x ∷ [])
all-more P [] x all is = (is, tt)
all-more P (y ∷ xs) x all is = (all.0, all-more P xs x all.1 is)

pub length-more : {X : Type 0} (xs : List X) (x : X) → length (xs ++ x ∷ []) ≡ length xs + 1
length-more [] x = refl
length-more (y ∷ xs) x = let more = length-more xs x in omega (arith, more)
