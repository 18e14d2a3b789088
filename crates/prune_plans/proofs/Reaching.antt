-- The task graph from tasks of owners that stay is the same in the pruned repository.
use Rattle.std.proofs.Common.{◌≡◌, ◌&&◌, ℕ, Bool, true, false, cond, not, List, [], ◌∷◌, ◌++◌, Option, Some, None, refl, sym, ap, ◌∙◌, inl, inr}
use Rattle.std.specs.Prelude.{Result, Ok, Err, find, is_some}
use Rattle.std.specs.List.{before_first}
use Rattle.std.proofs.lemmas.Bool.{and_parts, and_from, false≢true}
use Rattle.rel_path.specs.Paths.{Path}
use Rattle.rel_path.proofs.PathLaws.{name_self}
use Rattle.turbo_config.specs.declared.task_id.TaskId.{TaskId}
use Rattle.turbo_config.specs.declared.entry.TaskDef.{TaskDef}
use Rattle.turbo_config.specs.Names.{begins_caret}
use Rattle.task_definitions.specs.Setup.{Tasks, Setup, task_def, ends_in}
use Rattle.workspaces.specs.declared.member.Package.{Package}
use Rattle.workspaces.specs.Lists.{Has}
use Rattle.workspaces.specs.Space.{Space, owners, owner_named}
use Rattle.task_graph.specs.declared.error.GraphErr.{GraphErr}
use Rattle.task_graph.specs.declared.node.Node.{Node}
use Rattle.task_graph.specs.declared.plan.PlanList.{PlanList}
use Rattle.task_graph.specs.Ids.{id_cmp, task_id, has}
use Rattle.task_graph.specs.Tasks.{has_def, is_task, is_hash, is_full, full_id}
use Rattle.task_graph.specs.Edges.{texts_of, depends_on, is_refused, first_refused, edges}
use Rattle.task_graph.specs.Graphs.{IsClosed as IsClosedGraph, AreTasks, node_by, and_nodes, nodes_of}
use Rattle.task_graph.specs.Nodes.{ids_of, is_in_graph}
use Rattle.task_graph.specs.Persistent.{script_in, stays as does_stay, is_persistent}
use Rattle.task_graph.specs.Plans.{is_open, Follow, IsPlan}
use Rattle.repository.specs.Reading.{Contents}
use Rattle.kept_packages.specs.Kept.{IsClosed, names_package}
use Rattle.pruned_files.specs.Pruned.{pruned_setup}
use Rattle.prune_facts.proofs.Lists.{some_of, has_any}
use Rattle.prune_facts.proofs.Defining.{bare_def, defined_name}
use Rattle.prune_facts.proofs.Following.{has_among, among_has}
use Rattle.prune_laws.proofs.Owners.{IsSound, part_of, found_owner, plain_name, named_still}
use Rattle.prune_laws.proofs.Defs.{IsFirm, same_def}
use Rattle.prune_laws.proofs.Leading.{is_kept, kept_from, kept_owner, edges_kept, same_edges, bare_edges}
use Rattle.prune_laws.proofs.Graphs.{id_total, id_tied}
use Rattle.prune_plans.proofs.Lists.{find_none, none_found, find_same}

-- a task of an owner that stays, by which definitions are settled
pub record IsFine (contents : Contents) (set : Path → Bool) (id : TaskId) : Type 0 where
  pub owner : Package
  pub owned : owner_named contents.space id.«package» ≡ Some owner
  pub stays : set owner.folder ≡ true
  pub firm : IsFirm contents.setup owner id.task

-- ---- the tasks of a graph and of its plan

module _ (space : Space) (setup : Setup) where
  pub ids_are : (ids : List TaskId) (nodes : List Node) → nodes_of space setup ids ≡ Ok nodes → ids_of nodes ≡ ids
  ids_are [] nodes e = let s : nodes ≡ [] = cc in ap ids_of s
  ids_are (id ∷ ids) nodes e = by (first_refused space setup id) (nodes_of space setup ids) refl e (ids_are ids)
    where
      by : (o : Option (List ℕ)) (r : Result (List Node) GraphErr) → nodes_of space setup ids ≡ r → and_nodes (node_by o id (edges space setup id)) r ≡ Ok nodes → ((more : List Node) → nodes_of space setup ids ≡ Ok more → ids_of more ≡ ids) → ids_of nodes ≡ id ∷ ids
      by None (Ok more) k l rest = let s : nodes ≡ record { id = id; deps = edges space setup id } ∷ more = cc in ap ids_of s ∙ ap (λ xs. id ∷ xs) (rest more k)
      by None (Err fault) k l rest = absurd (cc)
      by (Some text) r k l rest = absurd (cc)

module _ (nodes : List Node) where
  open_in : (before : List TaskId) (id : TaskId) → is_open nodes before id ≡ true → is_in_graph nodes id ≡ true
  unfolding is_open
  open_in before id h = (and_parts (is_in_graph nodes id) _ h).0

  follow_in : (before ids : List TaskId) (id : TaskId) → Follow nodes before ids → Has ids id → is_in_graph nodes id ≡ true
  follow_in before [] id f h = absurd h
  follow_in before (x ∷ ids) id f (inl e) = ap (is_in_graph nodes) (sym e) ∙ open_in before x f.0.passes
  follow_in before (x ∷ ids) id f (inr h) = follow_in (before ++ x ∷ []) ids id f.1 h

  -- a planned task is one of the graph
  pub planned_in : (list : PlanList) → IsPlan nodes list → (id : TaskId) → Has list.ids id → has (ids_of nodes) id ≡ true
  planned_in list plan id h = follow_in [] list.ids id plan.order.follow h

-- ---- in both repositories

module _ (contents : Contents) (targets : List (List ℕ)) (set : Path → Bool) (sound : IsSound contents.space contents.setup) (closed : IsClosed contents targets set) where
  abbrev part : Space
  part = part_of contents.space set

  abbrev setup' : Setup
  setup' = pruned_setup contents.setup contents.space set

  -- the definition of an owner's task, and of a task by its id
  pub fine_def : (id : TaskId) → (fine : IsFine contents set id) → task_def (pruned_setup contents.setup contents.space set) fine.owner.name id.task ≡ task_def contents.setup fine.owner.name id.task
  fine_def id fine = same_def contents.space contents.setup sound set fine.owner id.task (found_owner contents.space id.«package» fine.owner fine.owned).0 fine.stays fine.firm

  pub fine_name : (id : TaskId) → (fine : IsFine contents set id) → fine.owner.name ≡ id.«package»
  fine_name id fine = (found_owner contents.space id.«package» fine.owner fine.owned).1

  pub id_def : (id : TaskId) → IsFine contents set id → task_def (pruned_setup contents.setup contents.space set) id.«package» id.task ≡ task_def contents.setup id.«package» id.task
  id_def id fine = ap (λ n. task_def setup' n id.task) (sym (fine_name id fine)) ∙ fine_def id fine ∙ ap (λ n. task_def contents.setup n id.task) (fine_name id fine)

  fine_edges : (id : TaskId) → IsFine contents set id → edges part setup' id ≡ edges contents.space contents.setup id
  fine_edges id fine = same_edges contents targets set sound closed id fine.owner fine.owned fine.stays fine.firm

  -- ---- what is refused

  module _ (id : TaskId) (fine : IsFine contents set id) (tasks : Tasks) (written : contents.setup.root ≡ Some tasks) (def : TaskDef) (defined : task_def contents.setup id.«package» id.task ≡ Some def) where
    abbrev p : Package
    p = fine.owner

    its_owner : Has (owners contents.space) fine.owner
    its_owner = (found_owner contents.space id.«package» fine.owner fine.owned).0

    its_def : task_def contents.setup fine.owner.name id.task ≡ Some def
    its_def = ap (λ n. task_def contents.setup n id.task) (fine_name id fine) ∙ defined

    -- the owner of a task that it names stays
    named_stays : (text : List ℕ) (q : Package) → Has def.depends_on text → begins_caret text ≡ false → is_full text ≡ true → owner_named contents.space (before_first is_hash text) ≡ Some q → set q.folder ≡ true
    named_stays text q h caret full e = closed.tasks p q (record { owner = its_owner; stays = fine.stays }) (record {
      task = id.task;
      listed = defined_name contents.setup p.name id.task (plain_name contents.space contents.setup sound p its_owner) def its_def;
      def = def;
      defined = its_def;
      name = before_first is_hash text;
      named = has_any (names_package (before_first is_hash text)) def.depends_on text h (and_from (not (begins_caret text)) _ (ap not caret) (and_from (is_full text) _ full (name_self (before_first is_hash text))));
      is = e;
    })

    still_task : (text : List ℕ) → Has def.depends_on text → begins_caret text ≡ false → is_full text ≡ true → is_task contents.space contents.setup (full_id text) ≡ true → is_task part setup' (full_id text) ≡ true
    still_task text h caret full t =
        let both = and_parts (is_some (owner_named contents.space (before_first is_hash text))) (has_def contents.setup (full_id text)) t in
        let q = some_of (owner_named contents.space (before_first is_hash text)) both.0 in
        let its : IsFine contents set (full_id text) = record { owner = q.0; owned = q.1; stays = named_stays text q.0 h caret full q.1; firm = inl (tasks, written) } in
        and_from (is_some (owner_named part (before_first is_hash text))) (has_def setup' (full_id text)) (ap is_some (named_still contents.space contents.setup sound set (before_first is_hash text) q.0 q.1 its.stays)) (ap is_some (id_def (full_id text) its) ∙ both.1)

    not_false : (b : Bool) → not b ≡ false → b ≡ true
    not_false true e = refl
    not_false false e = absurd (false≢true (sym e))

    still_stands : (text : List ℕ) → Has def.depends_on text → is_refused contents.space contents.setup id text ≡ false → is_refused part setup' id text ≡ false
    unfolding is_refused
    still_stands text h = by (begins_caret text) refl (is_full text) refl
      where
        plain : IsFine contents set (task_id id.«package» text)
        plain = record { owner = fine.owner; owned = fine.owned; stays = fine.stays; firm = inl (tasks, written) }

        by : (b : Bool) → begins_caret text ≡ b → (c : Bool) → is_full text ≡ c
            → cond b false (cond c (not (is_task contents.space contents.setup (full_id text))) (not (has_def contents.setup (task_id id.«package» text)) && not (ends_in contents.setup.root text))) ≡ false
            → cond b false (cond c (not (is_task part setup' (full_id text))) (not (has_def setup' (task_id id.«package» text)) && not (ends_in contents.setup.root text))) ≡ false
        by true caret c full e = refl
        by false caret true full e = ap not (still_task text h caret full (not_false (is_task contents.space contents.setup (full_id text)) e))
        by false caret false full e = ap (λ o. not (is_some o) && not (ends_in contents.setup.root text)) (id_def (task_id id.«package» text) plain) ∙ e

  -- where nothing is refused of a task, nothing is in the pruned repository
  none_refused : (id : TaskId) → IsFine contents set id → first_refused contents.space contents.setup id ≡ None → first_refused part setup' id ≡ None
  unfolding first_refused depends_on
  none_refused id fine none = ap (λ o. find (is_refused part setup' id) (texts_of o)) (id_def id fine) ∙ by (task_def contents.setup id.«package» id.task) refl contents.setup.root refl none
    where
      by : (o : Option TaskDef) → task_def contents.setup id.«package» id.task ≡ o → (r : Option Tasks) → contents.setup.root ≡ r → find (is_refused contents.space contents.setup id) (texts_of o) ≡ None → find (is_refused part setup' id) (texts_of o) ≡ None
      by None e r root k = refl
      by (Some def) e None root k = ap (find (is_refused part setup' id)) (bare_def contents.setup id.«package» id.task def root e)
      by (Some def) e (Some tasks) root k = find_none (is_refused part setup' id) def.depends_on (λ text h. still_stands id fine tasks root def e text h (none_found (is_refused contents.space contents.setup id) def.depends_on text k h))

  -- ---- the graph

  -- all tasks of a graph from such tasks are such
  pub all_fine : (starts graph : List TaskId) → AreTasks contents.space contents.setup starts graph → ((id : TaskId) → Has starts id → IsFine contents set id) → (id : TaskId) → has graph id ≡ true → IsFine contents set id
  all_fine starts graph tasks begun id h = by contents.setup.root refl
    where
      start : (x : TaskId) → has starts x ≡ true → IsFine contents set x
      start x k = begun x (among_has id_cmp id_total id_tied starts x k)

      by : (r : Option Tasks) → contents.setup.root ≡ r → IsFine contents set id
      by (Some written) root =
          let kept = tasks.least.1 (is_kept contents.space set) (record {
            start = λ x k. let f = start x k in kept_from contents.space set x f.owner f.owned f.stays;
            edge = λ x y k e. let o = kept_owner contents.space set x k in edges_kept contents targets set sound closed x o.0 o.1 o.2 y (among_has id_cmp id_total id_tied (edges contents.space contents.setup x) y e);
          }) id h in
          let o = kept_owner contents.space set id kept in
          record { owner = o.0; owned = o.1; stays = o.2; firm = inl (written, root) }
      by None root = start id (tasks.least.1 (has starts) (record {
        start = λ x k. k;
        edge = λ x y k e. let f = start x k in absurd (false≢true (ap (λ ys. has ys y) (sym (bare_edges contents targets set sound closed x f.owner f.owned f.stays root)) ∙ e));
      }) id h)

  module _ (starts graph : List TaskId) (tasks : AreTasks contents.space contents.setup starts graph) (begun : (id : TaskId) → Has starts id → IsFine contents set id) where
    fine : (id : TaskId) → has graph id ≡ true → IsFine contents set id
    fine = all_fine starts graph tasks begun

    -- the graph is the same
    pub still_tasks : AreTasks (part_of contents.space set) (pruned_setup contents.setup contents.space set) starts graph
    still_tasks = record {
      ascend = tasks.ascend;
      least = (
        record {
          start = tasks.least.0.start;
          edge = λ x y k e. tasks.least.0.edge x y k (ap (λ ys. has ys y) (sym (fine_edges x (fine x k))) ∙ e);
        },
        λ other c x k. (and_parts (other x) (has graph x) (tasks.least.1 (λ y. other y && has graph y) (both other c) x k)).0,
      );
    }
      where
        both : (other : TaskId → Bool) → IsClosedGraph part setup' starts other → IsClosedGraph contents.space contents.setup starts (λ y. other y && has graph y)
        both other c = record {
          start = λ x k. and_from (other x) (has graph x) (c.start x k) (tasks.least.0.start x k);
          edge = λ x y k e.
              let q = and_parts (other x) (has graph x) k in
              and_from (other y) (has graph y) (c.edge x y q.0 (ap (λ ys. has ys y) (fine_edges x (fine x q.1)) ∙ e)) (tasks.least.0.edge x y q.1 e);
        }

    still_nodes : (ids : List TaskId) (nodes : List Node) → ((id : TaskId) → Has ids id → IsFine contents set id) → nodes_of contents.space contents.setup ids ≡ Ok nodes → nodes_of part setup' ids ≡ Ok nodes
    still_nodes [] nodes each e = e
    still_nodes (id ∷ ids) nodes each e = by (first_refused contents.space contents.setup id) refl (nodes_of contents.space contents.setup ids) refl e (still_nodes ids)
      where
        by : (o : Option (List ℕ)) → first_refused contents.space contents.setup id ≡ o → (r : Result (List Node) GraphErr) → nodes_of contents.space contents.setup ids ≡ r
            → and_nodes (node_by o id (edges contents.space contents.setup id)) r ≡ Ok nodes → ((more : List Node) → ((x : TaskId) → Has ids x → IsFine contents set x) → nodes_of contents.space contents.setup ids ≡ Ok more → nodes_of part setup' ids ≡ Ok more)
            → and_nodes (node_by (first_refused part setup' id) id (edges part setup' id)) (nodes_of part setup' ids) ≡ Ok nodes
        by None f (Ok more) k l rest =
            let none = none_refused id (each id (inl refl)) f in
            let same = fine_edges id (each id (inl refl)) in
            let others = rest more (λ x h. each x (inr h)) k in
            (λ j. and_nodes (node_by (none j) id (same j)) (others j)) ∙ l
        by None f (Err fault) k l rest = absurd (cc)
        by (Some text) f r k l rest = absurd (cc)

    -- and so are its nodes
    pub still_made : (nodes : List Node) → nodes_of contents.space contents.setup graph ≡ Ok nodes → nodes_of (part_of contents.space set) (pruned_setup contents.setup contents.space set) graph ≡ Ok nodes
    still_made nodes e = still_nodes graph nodes (λ id h. fine id (has_among id_cmp id_total id_tied graph id h)) e

  -- ---- tasks that do not end

  still_persistent : (id : TaskId) → IsFine contents set id → is_persistent part setup' id ≡ is_persistent contents.space contents.setup id
  unfolding is_persistent
  still_persistent id fine =
      let owner = named_still contents.space contents.setup sound set id.«package» fine.owner fine.owned fine.stays ∙ sym fine.owned in
      let def = id_def id fine in
      λ j. script_in (owner j) id.task && does_stay (def j)

  pub persistent_same : (ids : List TaskId) → ((id : TaskId) → Has ids id → IsFine contents set id)
      → find (is_persistent (part_of contents.space set) (pruned_setup contents.setup contents.space set)) ids ≡ find (is_persistent contents.space contents.setup) ids
  persistent_same ids each = find_same (is_persistent part setup') (is_persistent contents.space contents.setup) ids (λ id h. still_persistent id (each id h))
