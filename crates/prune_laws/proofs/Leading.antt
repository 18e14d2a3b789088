-- What a task of an owner that stays depends on stays, and is the same.
use Rattle.std.proofs.Common.{◌≡◌, ◌⊎◌, ℕ, Bool, true, false, cond, not, List, [], ◌∷◌, ◌++◌, Option, Some, None, filter, map, refl, sym, ap, ◌∙◌, subst, inl, inr}
use Rattle.std.specs.Prelude.{is_some, drop}
use Rattle.std.specs.List.{before_first}
use Rattle.std.proofs.lemmas.Bool.{and_parts, and_from, false≢true}
use Rattle.rel_path.specs.Paths.{Path}
use Rattle.rel_path.proofs.PathLaws.{name_self}
use Rattle.turbo_config.specs.declared.task_id.TaskId.{TaskId}
use Rattle.turbo_config.specs.declared.entry.TaskDef.{TaskDef}
use Rattle.turbo_config.specs.Names.{begins_caret}
use Rattle.task_definitions.specs.Setup.{Tasks, Setup, task_def}
use Rattle.workspaces.specs.declared.member.Package.{Package}
use Rattle.workspaces.specs.Edges.{has_edge}
use Rattle.workspaces.specs.Lists.{Has, ascending}
use Rattle.workspaces.specs.Space.{Space, owners, owner_named}
use Rattle.task_graph.specs.Ids.{id_cmp, task_id}
use Rattle.task_graph.specs.Tasks.{has_def, is_task, is_hash, is_full, full_id}
use Rattle.task_graph.specs.Edges.{needed_by, upstream, only, text_tasks, texts_of, depends_on, tasks_of, edges}
use Rattle.repository.specs.Reading.{Contents}
use Rattle.kept_packages.specs.Kept.{IsClosed, names_package}
use Rattle.pruned_files.specs.Pruned.{pruned_setup}
use Rattle.prune_facts.proofs.Lists.{bool_same, some_of, has_any, has-append, filter-has, filter_same, filter-filter, map-has}
use Rattle.prune_facts.proofs.Sorted.{has-ascending}
use Rattle.prune_facts.proofs.Defining.{bare_def, root_def_by, defined_name}
use Rattle.prune_laws.proofs.Owners.{IsSound, part_of, owner_cases, package_owner, package_before, owner_still, found_owner, owner_is, one_owner, plain_name, named_still, named_before}
use Rattle.prune_laws.proofs.Defs.{IsFirm, same_def}

-- ---- what a task depends on

stays_by : (Path → Bool) → Option Package → Bool
stays_by set None = false
stays_by set (Some p) = set p.folder

-- the task is one of an owner that stays
pub is_kept : Space → (Path → Bool) → TaskId → Bool
unfolding stays_by
is_kept space set id = stays_by set (owner_named space id.«package»)

pub kept_from : (space : Space) (set : Path → Bool) (id : TaskId) (p : Package) → owner_named space id.«package» ≡ Some p → set p.folder ≡ true → is_kept space set id ≡ true
unfolding is_kept stays_by
kept_from space set id p e k = ap (stays_by set) e ∙ k

pub kept_owner : (space : Space) (set : Path → Bool) (id : TaskId) → is_kept space set id ≡ true → (p : Package) × (owner_named space id.«package» ≡ Some p) × (set p.folder ≡ true)
unfolding is_kept stays_by
kept_owner space set id h = by (owner_named space id.«package») refl h
  where
    by : (o : Option Package) → owner_named space id.«package» ≡ o → stays_by set o ≡ true → (p : Package) × (owner_named space id.«package» ≡ Some p) × (set p.folder ≡ true)
    by None e k = absurd (false≢true k)
    by (Some p) e k = (p, e, k)

only_has : (test : TaskId → Bool) (id y : TaskId) → Has (only test id) y → (id ≡ y) × (test id ≡ true)
only_has test id y h = by (test id) refl h
  where
    by : (b : Bool) → test id ≡ b → Has (cond b (id ∷ []) []) y → (id ≡ y) × (test id ≡ true)
    by true e (inl s) = (s, e)
    by true e (inr u) = absurd u
    by false e u = absurd u

text_of : (space : Space) (setup : Setup) (id y : TaskId) (texts : List (List ℕ)) → Has (tasks_of space setup id texts) y → (text : List ℕ) × (Has texts text) × Has (text_tasks space setup id text) y
text_of space setup id y [] h = absurd h
text_of space setup id y (text ∷ texts) h = elim (has-append (text_tasks space setup id text) (tasks_of space setup id texts) y h) [
  | inl a ↦ (text, inl refl, a)
  | inr b ↦ let r = text_of space setup id y texts b in (r.0, inr r.1, r.2)
]

same_tasks : (space other : Space) (setup changed : Setup) (id : TaskId) (texts : List (List ℕ)) → ((text : List ℕ) → Has texts text → text_tasks other changed id text ≡ text_tasks space setup id text) → tasks_of other changed id texts ≡ tasks_of space setup id texts
same_tasks space other setup changed id [] same = refl
same_tasks space other setup changed id (text ∷ texts) same =
    let a = same text (inl refl) in
    let b = same_tasks space other setup changed id texts (λ t h. same t (inr h)) in
    λ j. a j ++ b j

module _ (contents : Contents) (targets : List (List ℕ)) (set : Path → Bool) (sound : IsSound contents.space contents.setup) (closed : IsClosed contents targets set) where
  abbrev part : Space
  part = part_of contents.space set

  abbrev setup' : Setup
  setup' = pruned_setup contents.setup contents.space set

  module _ (id : TaskId) (p : Package) (owned : owner_named contents.space id.«package» ≡ Some p) (k : set p.folder ≡ true) where
    in_own : Has (owners contents.space) p
    in_own = (found_owner contents.space id.«package» p owned).0

    its_name : p.name ≡ id.«package»
    its_name = (found_owner contents.space id.«package» p owned).1

    -- the packages on which it depends
    edge_kept : (m : Package) → Has contents.space.packages m → has_edge p m ≡ true → set m.folder ≡ true
    edge_kept m h e = closed.edges p m (record { owner = in_own; stays = k }) h e

    named_kept : (def : TaskDef) (text : List ℕ) (q : Package) → task_def contents.setup id.«package» id.task ≡ Some def → Has def.depends_on text → begins_caret text ≡ false → is_full text ≡ true
        → owner_named contents.space (before_first is_hash text) ≡ Some q → set q.folder ≡ true
    named_kept def text q defined h caret full e = closed.tasks p q (record { owner = in_own; stays = k }) (record {
      task = id.task;
      listed = defined_name contents.setup p.name id.task (plain_name contents.space contents.setup sound p in_own) def (ap (λ n. task_def contents.setup n id.task) its_name ∙ defined);
      def = def;
      defined = ap (λ n. task_def contents.setup n id.task) its_name ∙ defined;
      name = before_first is_hash text;
      named = has_any (names_package (before_first is_hash text)) def.depends_on text h (and_from (not (begins_caret text)) _ (ap not caret) (and_from (is_full text) _ full (name_self (before_first is_hash text))));
      is = e;
    })

    upstream_kept : (name : List ℕ) (y : TaskId) → Has (upstream contents.space contents.setup id.«package» name) y → is_kept contents.space set y ≡ true
    unfolding upstream
    upstream_kept name y h =
        let u = map-has (λ (m : Package). task_id m.name name) (needed_by contents.space (owner_named contents.space id.«package»)) y (filter-has (has_def contents.setup) _ y h).0 in
        let v = filter-has (has_edge p) contents.space.packages u.0 (subst (λ o. Has (needed_by contents.space o) u.0) owned u.1) in
        ap (is_kept contents.space set) (sym u.2)
        ∙ kept_from contents.space set (task_id u.0.name name) u.0 (owner_is contents.space (one_owner contents.space contents.setup sound) u.0.name u.0 (package_owner contents.space u.0 v.0) refl) (edge_kept u.0 v.0 v.1)

    task_kept : (def : TaskDef) (text : List ℕ) → task_def contents.setup id.«package» id.task ≡ Some def → Has def.depends_on text → begins_caret text ≡ false → is_full text ≡ true
        → is_task contents.space contents.setup (full_id text) ≡ true → is_kept contents.space set (full_id text) ≡ true
    task_kept def text defined h caret full t =
        let q = some_of (owner_named contents.space (before_first is_hash text)) (and_parts _ (has_def contents.setup (full_id text)) t).0 in
        kept_from contents.space set (full_id text) q.0 q.1 (named_kept def text q.0 defined h caret full q.1)

    text_kept : (def : TaskDef) (text : List ℕ) (y : TaskId) → task_def contents.setup id.«package» id.task ≡ Some def → Has def.depends_on text → Has (text_tasks contents.space contents.setup id text) y → is_kept contents.space set y ≡ true
    unfolding text_tasks
    text_kept def text y defined h u = by (begins_caret text) refl (is_full text) refl u
      where
        by : (b : Bool) → begins_caret text ≡ b → (c : Bool) → is_full text ≡ c
            → Has (cond b (upstream contents.space contents.setup id.«package» (drop 1 text)) (cond c (only (is_task contents.space contents.setup) (full_id text)) (only (has_def contents.setup) (task_id id.«package» text)))) y → is_kept contents.space set y ≡ true
        by true caret c full v = upstream_kept (drop 1 text) y v
        by false caret true full v = let r = only_has (is_task contents.space contents.setup) (full_id text) y v in ap (is_kept contents.space set) (sym r.0) ∙ task_kept def text defined h caret full r.1
        by false caret false full v = let r = only_has (has_def contents.setup) (task_id id.«package» text) y v in ap (is_kept contents.space set) (sym r.0) ∙ kept_from contents.space set (task_id id.«package» text) p owned k

    pub edges_kept : (y : TaskId) → Has (edges contents.space contents.setup id) y → is_kept contents.space set y ≡ true
    unfolding edges depends_on
    edges_kept y h = by (task_def contents.setup id.«package» id.task) refl (has-ascending id_cmp (tasks_of contents.space contents.setup id (depends_on contents.setup id)) y h)
      where
        by : (o : Option TaskDef) → task_def contents.setup id.«package» id.task ≡ o → Has (tasks_of contents.space contents.setup id (texts_of o)) y → is_kept contents.space set y ≡ true
        by None e u = absurd u
        by (Some def) e u = let r = text_of contents.space contents.setup id y def.depends_on u in text_kept def r.0 y e r.1 r.2

    -- ---- the same in both

    module _ (tasks : Tasks) (written : contents.setup.root ≡ Some tasks) where
      owner_def : (q : Package) (task : List ℕ) → Has (owners contents.space) q → set q.folder ≡ true → has_def setup' (task_id q.name task) ≡ has_def contents.setup (task_id q.name task)
      owner_def q task h s = ap is_some (same_def contents.space contents.setup sound set q task h s (inl (tasks, written)))

      same_upstream : (name : List ℕ) → upstream part setup' id.«package» name ≡ upstream contents.space contents.setup id.«package» name
      unfolding upstream
      same_upstream name =
          ap (λ o. filter (has_def setup') (map (λ (m : Package). task_id m.name name) (needed_by part o))) (named_still contents.space contents.setup sound set id.«package» p owned k)
          ∙ ap (λ ms. filter (has_def setup') (map (λ (m : Package). task_id m.name name) ms)) (filter-filter (has_edge p) (λ (m : Package). set m.folder) contents.space.packages edge_kept)
          ∙ filter_same (has_def setup') (has_def contents.setup) (map (λ (m : Package). task_id m.name name) (filter (has_edge p) contents.space.packages))
          (λ y h.
          let u = map-has (λ (m : Package). task_id m.name name) (filter (has_edge p) contents.space.packages) y h in
          let v = filter-has (has_edge p) contents.space.packages u.0 u.1 in
          ap (has_def setup') (sym u.2) ∙ owner_def u.0 name (package_owner contents.space u.0 v.0) (edge_kept u.0 v.0 v.1) ∙ ap (has_def contents.setup) u.2)
          ∙ ap (λ o. filter (has_def contents.setup) (map (λ (m : Package). task_id m.name name) (needed_by contents.space o))) (sym owned)

      part_def : (q : Package) (task : List ℕ) → Has (owners part) q → has_def setup' (task_id q.name task) ≡ has_def contents.setup (task_id q.name task)
      part_def q task h = elim (owner_cases part q h) [
        | inl a ↦ let r = package_before contents.space contents.setup sound set q a in owner_def q task (package_owner contents.space q r.0) r.1
        | inr e ↦ ap (λ (o : Package). has_def setup' (task_id o.name task)) e ∙ ap is_some (root_def_by contents.setup setup' task refl) ∙ ap (λ (o : Package). has_def contents.setup (task_id o.name task)) (sym e)
      ]

      id_def : (y : TaskId) (q : Package) → Has (owners part) q → q.name ≡ y.«package» → has_def setup' y ≡ has_def contents.setup y
      id_def y q h e = ap (λ n. has_def setup' (task_id n y.task)) (sym e) ∙ part_def q y.task h ∙ ap (λ n. has_def contents.setup (task_id n y.task)) e

      same_task : (y : TaskId) → (is_task contents.space contents.setup y ≡ true → is_kept contents.space set y ≡ true) → is_task part setup' y ≡ is_task contents.space contents.setup y
      same_task y stays = bool_same _ _
          (λ t.
          let both = and_parts (is_some (owner_named part y.«package»)) _ t in
          let q = some_of (owner_named part y.«package») both.0 in
          let f = found_owner part y.«package» q.0 q.1 in
          and_from (is_some (owner_named contents.space y.«package»)) _ (ap is_some (named_before contents.space contents.setup sound set y.«package» q.0 q.1)) (sym (id_def y q.0 f.0 f.1) ∙ both.1))
          (λ t.
          let both = and_parts (is_some (owner_named contents.space y.«package»)) _ t in
          let q = kept_owner contents.space set y (stays t) in
          let e = named_still contents.space contents.setup sound set y.«package» q.0 q.1 q.2 in
          let f = found_owner part y.«package» q.0 e in
          and_from (is_some (owner_named part y.«package»)) _ (ap is_some e) (id_def y q.0 f.0 f.1 ∙ both.1))

      same_text : (def : TaskDef) (text : List ℕ) → task_def contents.setup id.«package» id.task ≡ Some def → Has def.depends_on text → text_tasks part setup' id text ≡ text_tasks contents.space contents.setup id text
      unfolding text_tasks
      same_text def text defined h = by (begins_caret text) refl (is_full text) refl
        where
          by : (b : Bool) → begins_caret text ≡ b → (c : Bool) → is_full text ≡ c
              → cond b (upstream part setup' id.«package» (drop 1 text)) (cond c (only (is_task part setup') (full_id text)) (only (has_def setup') (task_id id.«package» text)))
              ≡ cond b (upstream contents.space contents.setup id.«package» (drop 1 text)) (cond c (only (is_task contents.space contents.setup) (full_id text)) (only (has_def contents.setup) (task_id id.«package» text)))
          by true caret c full = same_upstream (drop 1 text)
          by false caret true full = ap (λ b. cond b (full_id text ∷ []) []) (same_task (full_id text) (λ t. task_kept def text defined h caret full t))
          by false caret false full = ap (λ b. cond b (task_id id.«package» text ∷ []) []) (id_def (task_id id.«package» text) p (owner_still contents.space contents.setup sound set p in_own k) its_name)

    -- a task by which definitions are settled depends on the same
    pub same_edges : IsFirm contents.setup p id.task → edges part setup' id ≡ edges contents.space contents.setup id
    unfolding edges depends_on
    same_edges firm =
        ap (ascending id_cmp) (ap (λ o. tasks_of part setup' id (texts_of o)) (its_def firm) ∙ by (task_def contents.setup id.«package» id.task) refl (some_or_none contents.setup.root))
      where
        its_def : IsFirm contents.setup p id.task → task_def setup' id.«package» id.task ≡ task_def contents.setup id.«package» id.task
        its_def f = ap (λ n. task_def setup' n id.task) (sym its_name) ∙ same_def contents.space contents.setup sound set p id.task in_own k f ∙ ap (λ n. task_def contents.setup n id.task) its_name

        some_or_none : (o : Option Tasks) → ((tasks : Tasks) × (o ≡ Some tasks)) ⊎ (o ≡ None)
        some_or_none None = inr refl
        some_or_none (Some tasks) = inl (tasks, refl)

        by : (o : Option TaskDef) → task_def contents.setup id.«package» id.task ≡ o → ((tasks : Tasks) × (contents.setup.root ≡ Some tasks)) ⊎ (contents.setup.root ≡ None) → tasks_of part setup' id (texts_of o) ≡ tasks_of contents.space contents.setup id (texts_of o)
        by None e root = refl
        by (Some def) e (inl root) = same_tasks contents.space part contents.setup setup' id def.depends_on (λ text h. same_text root.0 root.1 def text e h)
        by (Some def) e (inr root) =
            let none = bare_def contents.setup id.«package» id.task def root e in
            ap (tasks_of part setup' id) none ∙ sym (ap (tasks_of contents.space contents.setup id) none)

    -- without a turbo.json at the root it depends on nothing
    pub bare_edges : contents.setup.root ≡ None → edges contents.space contents.setup id ≡ []
    unfolding edges depends_on ascending
    bare_edges root = by (task_def contents.setup id.«package» id.task) refl
      where
        by : (o : Option TaskDef) → task_def contents.setup id.«package» id.task ≡ o → ascending id_cmp (tasks_of contents.space contents.setup id (texts_of o)) ≡ []
        by None e = refl
        by (Some def) e = ap (λ texts. ascending id_cmp (tasks_of contents.space contents.setup id texts)) (bare_def contents.setup id.«package» id.task def root e)
