-- Each task of a graph is one of the repository.
use Rattle.std.proofs.Common.{◌≡◌, inl, inr, ◌<◌, ℕ, zero, suc, Bool, true, false, cond, not, List, [], ◌∷◌, ◌++◌, length, map, refl, sym, ap, ◌∙◌, subst, arith, Result, Ok, Err}
use Rattle.std.specs.Prelude.{Option, Some, None, is_some, filter, find, drop}
use Rattle.std.specs.List.{AllByRecursion}
use Rattle.std.proofs.lemmas.Slice.Eq.{bytes_eq-Decides}
use Rattle.rel_path.specs.Paths.{name_eq}
use Rattle.turbo_config.specs.Names.{begins_caret}
use Rattle.task_definitions.specs.Setup.{Setup, is_name}
use Rattle.turbo_config.specs.declared.task_id.TaskId.{TaskId}
use Rattle.workspaces.specs.declared.member.Package.{Package}
use Rattle.workspaces.specs.Space.{Space, root_package, owners, owner_named}
use Rattle.workspaces.specs.Edges.{has_edge}
use Rattle.workspaces.specs.Lists.{Has}
use Rattle.workspaces.specs.Reach.{AreBelow}
use Rattle.workspaces.specs.Steps.{name_at}
use Rattle.task_graph.specs.declared.error.GraphErr.{GraphErr}
use Rattle.task_graph.specs.declared.error.GraphErr.TheVariants.{NoSuchTask}
use Rattle.task_graph.specs.declared.node.Node.{Node}
use Rattle.task_graph.specs.Ids.{id_cmp, task_id, has}
use Rattle.task_graph.specs.Tasks.{has_def, is_task, tasks_in, is_full, full_id}
use Rattle.task_graph.specs.Entries.{chosen, entry_tasks, word_tasks, is_unknown, and_more}
use Rattle.task_graph.specs.Edges.{edges, upstream, needed_by, only, text_tasks, tasks_of, depends_on}
use Rattle.task_graph.specs.Nodes.{ids_of}
use Rattle.task_graph.specs.Graphs.{IsGraphFrom, MeansFrom, Means}
use Rattle.task_graph.proofs.Ids.{id_total, from-has, has-from, and_first}
use Rattle.workspaces.proofs.Order.{all_has, all_from, has-ascending}
use Rattle.task_graph.proofs.Named.{chosen_below}
use Rattle.task_graph.proofs.Noded.{ids_are}

all_append : (P : TaskId → Type 0) (xs ys : List TaskId) → AllByRecursion P xs → AllByRecursion P ys → AllByRecursion P (xs ++ ys)
all_append P [] ys first second = second
all_append P (x ∷ xs) ys first second = (first.0, all_append P xs ys first.1 second)

name_self : (name : List ℕ) → name_eq name name ≡ true
name_self name = (bytes_eq-Decides name name).1 refl

module _ (space : Space) (config : Setup) where
  -- its package is there, or it is one of the root
  abbrev there : TaskId → Bool
  there id = is_some (owner_named space id.«package»)

  abbrev IsOne : TaskId → Type 0
  IsOne id = is_task space config id ≡ true

  owner_there : (name task : List ℕ) (owner : Package) → Has (owners space) owner → owner.name ≡ name → there (task_id name task) ≡ true
  unfolding owner_named
  owner_there name task owner = by (owners space) where
    by : (os : List Package) → Has os owner → owner.name ≡ name → is_some (find (λ o. name_eq o.name name) os) ≡ true
    by [] has same = absurd has
    by (o ∷ os) (inl here) same = let is : name_eq o.name name ≡ true = subst (λ w. name_eq w name ≡ true) (sym (ap (λ (m : Package). m.name) here ∙ same)) (name_self name) in rw is refl
    by (o ∷ os) (inr later) same = step (name_eq o.name name) (by os later same) where
      step : (t : Bool) → is_some (find (λ m. name_eq m.name name) os) ≡ true → is_some (cond t (Some o) (find (λ m. name_eq m.name name) os)) ≡ true
      step true further = refl
      step false further = further

  -- of tasks that have an owner, those with a definition
  kept : (ids : List TaskId) → AllByRecursion (λ id. there id ≡ true) ids → AllByRecursion IsOne (filter (has_def config) ids)
  kept [] all = tt
  kept (id ∷ ids) all = by (has_def config id) refl (kept ids all.1) where
    by : (t : Bool) → has_def config id ≡ t → AllByRecursion IsOne (filter (has_def config) ids) → AllByRecursion IsOne (cond t (id ∷ filter (has_def config) ids) (filter (has_def config) ids))
    by true e further = (rw (all.0, e) refl, further)
    by false e further = further

  -- ---- the tasks that are named

  name_has : (place : ℕ) → place < length (owners space) → (owner : Package) × (Has (owners space) owner) × (owner.name ≡ name_at (owners space) place)
  name_has place less = by (owners space) place less where
    by : (os : List Package) (p : ℕ) → p < length os → (owner : Package) × (Has os owner) × (owner.name ≡ name_at os p)
    by [] p less = absurd (omega arith)
    by (o ∷ os) zero less = (o, inl refl, refl)
    by (o ∷ os) (suc p) less = let r = by os p (omega arith) in (r.0, inr r.1, r.2)

  all_there : (places : List ℕ) (name : List ℕ) → AreBelow (length (owners space)) places → AllByRecursion (λ id. there id ≡ true) (map (λ o. task_id (name_at (owners space) o) name) places)
  all_there [] name below = tt
  all_there (p ∷ places) name below = let r = name_has p below.0 in (owner_there (name_at (owners space) p) name r.0 r.1 r.2, all_there places name below.1)

  module _ (selected : List ℕ) (all : Bool) (below : AreBelow (length space.packages) selected) where
    word_are : (word : List ℕ) → is_unknown space config word ≡ false → AllByRecursion IsOne (word_tasks space config selected all word)
    unfolding word_tasks is_unknown
    word_are word = by (is_full word) where
      known : (t : Bool) → not t ≡ false → t ≡ true
      known true e = refl
      known false e = sym e

      by : (t : Bool) → cond t (not (is_task space config (full_id word))) (not (is_name config word)) ≡ false → AllByRecursion IsOne (cond t (full_id word ∷ []) (tasks_in (owners space) config (chosen space selected all) word))
      by true e = (known (is_task space config (full_id word)) e, tt)
      by false e = kept (map (λ o. task_id (name_at (owners space) o) word) (chosen space selected all)) (all_there (chosen space selected all) word (chosen_below space selected all below))

    starts_are : (words : List (List ℕ)) (starts : List TaskId) → entry_tasks space config selected all words ≡ Ok starts → AllByRecursion IsOne starts
    starts_are [] starts is = let none : starts ≡ [] = cc in subst (AllByRecursion IsOne) (sym none) tt
    starts_are (word ∷ words) starts is = by (is_unknown space config word) refl is (starts_are words) where
      more : (r : Result (List TaskId) GraphErr) → entry_tasks space config selected all words ≡ r → AllByRecursion IsOne (word_tasks space config selected all word) → and_more (word_tasks space config selected all word) r ≡ Ok starts
          → ((rest : List TaskId) → entry_tasks space config selected all words ≡ Ok rest → AllByRecursion IsOne rest) → AllByRecursion IsOne starts
      more (Ok rest) e own sum further =
          let whole : starts ≡ word_tasks space config selected all word ++ rest = cc in
          subst (AllByRecursion IsOne) (sym whole) (all_append IsOne (word_tasks space config selected all word) rest own (further rest e))
      more (Err fault) e own sum further = absurd (cc)

      by : (t : Bool) → is_unknown space config word ≡ t → cond t (Err (NoSuchTask word)) (and_more (word_tasks space config selected all word) (entry_tasks space config selected all words)) ≡ Ok starts
          → ((rest : List TaskId) → entry_tasks space config selected all words ≡ Ok rest → AllByRecursion IsOne rest) → AllByRecursion IsOne starts
      by true e sum further = absurd (cc)
      by false e sum further = more (entry_tasks space config selected all words) refl (word_are word e) sum further

  -- ---- what a task depends on

  has_before : (ps others : List Package) (m : Package) → Has ps m → Has (ps ++ others) m
  has_before [] others m has = absurd has
  has_before (p ∷ ps) others m (inl here) = inl here
  has_before (p ∷ ps) others m (inr later) = inr (has_before ps others m later)

  needed_there : (name : List ℕ) (test : Package → Bool) (ps : List Package) → ((m : Package) → Has ps m → Has (owners space) m) → AllByRecursion (λ id. there id ≡ true) (map (λ (member : Package). task_id member.name name) (filter test ps))
  needed_there name test [] within = tt
  needed_there name test (p ∷ ps) within = by (test p) (needed_there name test ps (λ m later. within m (inr later))) where
    by : (t : Bool) → AllByRecursion (λ id. there id ≡ true) (map (λ (member : Package). task_id member.name name) (filter test ps)) → AllByRecursion (λ id. there id ≡ true) (map (λ (member : Package). task_id member.name name) (cond t (p ∷ filter test ps) (filter test ps)))
    by true further = (owner_there p.name name p (within p (inl refl)) refl, further)
    by false further = further

  upstream_are : (pkg name : List ℕ) → AllByRecursion IsOne (upstream space config pkg name)
  unfolding upstream
  upstream_are pkg name = kept (map (λ (member : Package). task_id member.name name) (needed_by space (owner_named space pkg))) (by (owner_named space pkg)) where
    by : (o : Option Package) → AllByRecursion (λ id. there id ≡ true) (map (λ (member : Package). task_id member.name name) (needed_by space o))
    by None = tt
    by (Some member) = needed_there name (has_edge member) space.packages (λ m has. has_before space.packages (root_package space.root ∷ []) m has)

  only_one : (id : TaskId) → AllByRecursion IsOne (only (is_task space config) id)
  only_one id = by (is_task space config id) refl where
    by : (t : Bool) → is_task space config id ≡ t → AllByRecursion IsOne (cond t (id ∷ []) [])
    by true e = (e, tt)
    by false e = tt

  only_own : (id : TaskId) → there id ≡ true → AllByRecursion IsOne (only (has_def config) id)
  only_own id own = by (has_def config id) refl where
    by : (t : Bool) → has_def config id ≡ t → AllByRecursion IsOne (cond t (id ∷ []) [])
    by true e = (rw (own, e) refl, tt)
    by false e = tt

  module _ (id : TaskId) (own : there id ≡ true) where
    text_are : (text : List ℕ) → AllByRecursion IsOne (text_tasks space config id text)
    unfolding text_tasks
    text_are text = by (begins_caret text) (is_full text) where
      by : (s t : Bool) → AllByRecursion IsOne (cond s (upstream space config id.«package» (drop 1 text)) (cond t (only (is_task space config) (full_id text)) (only (has_def config) (task_id id.«package» text))))
      by true t = upstream_are id.«package» (drop 1 text)
      by false true = only_one (full_id text)
      by false false = only_own (task_id id.«package» text) own

    texts_are : (texts : List (List ℕ)) → AllByRecursion IsOne (tasks_of space config id texts)
    texts_are [] = tt
    texts_are (text ∷ texts) = all_append IsOne (text_tasks space config id text) (tasks_of space config id texts) (text_are text) (texts_are texts)

  edge_is : (id next : TaskId) → IsOne id → has (edges space config id) next ≡ true → IsOne next
  unfolding edges
  edge_is id next one is =
      let own : there id ≡ true = and_first (there id) (has_def config id) one in
      all_has IsOne (tasks_of space config id (depends_on config id)) next (texts_are id own (depends_on config id))
      (has-ascending id_cmp id_total (tasks_of space config id (depends_on config id)) next (from-has (edges space config id) next is))

  -- ---- the graph

  by_nodes : (nodes : List Node) → AllByRecursion IsOne (ids_of nodes) → AllByRecursion (λ node. IsOne node.id) nodes
  by_nodes [] all = tt
  by_nodes (node ∷ nodes) all = (all.0, by_nodes nodes all.1)

  from_are : (starts : List TaskId) (nodes : List Node) → AllByRecursion IsOne starts → IsGraphFrom space config starts (Ok nodes) → AllByRecursion (λ node. IsOne node.id) nodes
  from_are starts nodes first is =
      let each : (id : TaskId) → has is.ids id ≡ true → IsOne id = is.are.least.1 (is_task space config) (record {
        start = λ id among. all_has IsOne starts id first (from-has starts id among);
        edge = edge_is;
      }) in
      by_nodes nodes (subst (AllByRecursion IsOne) (sym (ids_are space config is.ids nodes is.nodes)) (all_from IsOne is.ids (λ id among. each id (has-from is.ids id among))))

  pub tasks_are : (selected : List ℕ) (all : Bool) (words : List (List ℕ)) (nodes : List Node) → AreBelow (length space.packages) selected → Means space config selected all words (Ok nodes) → AllByRecursion (λ node. IsOne node.id) nodes
  tasks_are selected all words nodes below = by (entry_tasks space config selected all words) refl where
    by : (r : Result (List TaskId) GraphErr) → entry_tasks space config selected all words ≡ r → MeansFrom space config r (Ok nodes) → AllByRecursion (λ node. IsOne node.id) nodes
    by (Ok starts) e means = from_are starts nodes (starts_are selected all below words starts e) means
    by (Err fault) e means = absurd (cc)
