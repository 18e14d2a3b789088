-- The closure of a task of an owner that stays.
use Rattle.std.proofs.Common.{◌≡◌, ℕ, Bool, true, false, List, Option, Some, None, filter, refl, sym, ap, ◌∙◌, subst, inl}
use Rattle.std.specs.Prelude.{slice_get, is_some}
use Rattle.std.specs.BTreeMap.{is_at}
use Rattle.rel_path.specs.Paths.{Path, is_among}
use Rattle.rel_path.specs.Files.{FileMap}
use Rattle.env_select.specs.Choice.{ChosenOnce}
use Rattle.workspaces.specs.declared.member.Package.{Package}
use Rattle.workspaces.specs.Edges.{text_by}
use Rattle.workspaces.specs.Lists.{Has}
use Rattle.workspaces.specs.Space.{Space, owners, owner_named}
use Rattle.turbo_config.specs.declared.task_id.TaskId.{TaskId}
use Rattle.turbo_config.specs.declared.entry.TaskDef.{TaskDef}
use Rattle.task_definitions.specs.Setup.{Tasks, Setup, task_def}
use Rattle.task_graph.specs.Ids.{id_cmp}
use Rattle.task_graph.specs.Edges.{edges}
use Rattle.task_inputs.specs.Ignores.{is_left_out}
use Rattle.task_inputs.specs.Inputs.{is_input}
use Rattle.listing.specs.declared.part.Part.{Part}
use Rattle.listing.specs.declared.part.Listing.{Listing}
use Rattle.run_laws.specs.Picks.{pick}
use Rattle.run_laws.specs.Closures.{names, renumbered, sub_parts, in_closure, closure}
use Rattle.run_plan.specs.declared.plan.Plan.{Plan}
use Rattle.collect.specs.Parts.{takes_input}
use Rattle.collect.specs.Listings.{ArePaired, is_needed, needed}
use Rattle.repository.specs.Reading.{Contents}
use Rattle.planner.specs.Wanted.{wanted_of}
use Rattle.pruned_files.specs.Pruned.{Pruning, IsPruning, pruned_files, pruned_contents, pruned_setup, lock_path}
use Rattle.prune_laws.specs.Laws.{HasNoLockInput, GiveSameWords}
use Rattle.prune_facts.proofs.Lists.{some_inj, any_has, any-map}
use Rattle.prune_facts.proofs.Following.{at_is, at_self}
use Rattle.prune_facts.proofs.Pairing.{pairs-pick, partner_of}
use Rattle.prune_facts.proofs.Laying.{IsLaid, run, run_good, run_within}
use Rattle.prune_facts.proofs.Closing.{named_files, unnumbered, IsPlaced, parts_same, closure_same}
use Rattle.prune_laws.proofs.Owners.{IsSound, part_of, found_owner}
use Rattle.prune_laws.proofs.Defs.{IsFirm, firm_script}
use Rattle.prune_laws.proofs.Leading.{is_kept, kept_from, kept_owner, edges_kept, same_edges, bare_edges}
use Rattle.prune_laws.proofs.Inputs.{taken_stays, same_bytes}
use Rattle.prune_laws.proofs.Parts.{same_part}
use Rattle.prune_laws.proofs.Graphs.{id_total, id_tied}
use Rattle.prune_laws.proofs.Running.{IsRun, HasPart, laid, parts_are, taken, is_wanted}

-- of parts that are kept, one that names a path, with its task
named_by : (ids : List TaskId) (l : Listing) (T : TaskId → Part → Type 0) → ArePaired T ids l.parts → (keep : ℕ → Bool) (path : Path) → names (sub_parts l keep) path ≡ true
    → (id : TaskId) × (Has (pick keep ids) id) × (part : Part) × T id part × (is_among part.inputs path ≡ true)
named_by ids l T pairs keep path h =
    let q = any_has (λ (part : Part). is_among part.inputs path) (pick keep l.parts) (sym (any-map (λ (part : Part). is_among part.inputs path) (renumbered keep) (pick keep l.parts)) ∙ h) in
    let r = partner_of T (pick keep ids) (pick keep l.parts) (pairs-pick T keep ids l.parts pairs) q.0 q.1 in
    (r.0, r.1, q.0, r.2, q.2)

module _ (choice : ChosenOnce) (files : FileMap) (contents : Contents) (targets : List (List ℕ)) (p : Pruning) (env : List (List ℕ × List ℕ)) (whole part : Plan)
    (sound : IsSound contents.space contents.setup) (is : IsPruning contents targets p) (free : HasNoLockInput files contents p)
    (one : IsRun contents env files whole) (other : IsRun (pruned_contents contents p) env (pruned_files p files) part) (words : GiveSameWords contents p whole part) where
  abbrev space' : Space
  space' = part_of contents.space p.set

  abbrev setup' : Setup
  setup' = pruned_setup contents.setup contents.space p.set

  abbrev stays : TaskId → Bool
  stays = is_kept contents.space p.set

  abbrev needs : TaskId → List TaskId
  needs = edges contents.space contents.setup

  abbrev needs' : TaskId → List TaskId
  needs' = edges space' setup'

  no_lock : (q : Package) (task : List ℕ) (def : TaskDef) → Has (owners contents.space) q → p.set q.folder ≡ true → task_def contents.setup q.name task ≡ Some def → is_input (is_left_out contents.setup (owners contents.space) files contents.walk) contents.setup (owners contents.space) q def lock_path ≡ false
  no_lock q task def h k e = free q task def (record { owner = h; stays = k }) e

  -- a set of tasks of owners that stay, which holds what they depend on, and by which definitions are settled
  pub record IsGood (good : TaskId → Bool) : Type 0 where
    pub kept : (id : TaskId) → good id ≡ true → stays id ≡ true
    pub firm : (id : TaskId) → good id ≡ true → (q : Package) → owner_named contents.space id.«package» ≡ Some q → IsFirm contents.setup q id.task
    pub holds : (x y : TaskId) → good x ≡ true → Has (needs x) y → good y ≡ true

  module _ (good : TaskId → Bool) (fine : IsGood good) (i j : ℕ) (t : TaskId) (at : slice_get one.list.ids i ≡ Some t) (at' : slice_get other.list.ids j ≡ Some t) (first : good t ≡ true) where
    owner_of : (id : TaskId) → good id ≡ true → (q : Package) × (owner_named contents.space id.«package» ≡ Some q) × (p.set q.folder ≡ true)
    owner_of id g = kept_owner contents.space p.set id (fine.kept id g)

    same_needs : (id : TaskId) → good id ≡ true → needs' id ≡ needs id
    same_needs id g = let q = owner_of id g in same_edges contents targets p.set sound is.kept.0 id q.0 q.1 q.2 (fine.firm id g q.0 q.1)

    abbrev l : Listing
    l = whole.listing

    abbrev l' : Listing
    l' = part.listing

    abbrev laid₁ : IsLaid id_cmp id_total id_tied needs one.list.ids l
    laid₁ = laid contents env files whole one

    abbrev laid₂ : IsLaid id_cmp id_total id_tied needs' other.list.ids l'
    laid₂ = laid (pruned_contents contents p) env (pruned_files p files) part other

    abbrev T : TaskId → Part → Type 0
    T = HasPart contents env files whole one

    abbrev T' : TaskId → Part → Type 0
    T' = HasPart (pruned_contents contents p) env (pruned_files p files) part other

    is_good : (id : TaskId) → Has (run id_cmp id_total id_tied needs one.list.ids l laid₁ i) id → good id ≡ true
    is_good id h = run_good id_cmp id_total id_tied needs needs' one.list.ids other.list.ids l l' laid₁ laid₂ good fine.holds same_needs i j t at at' first id h

    alike : (id : TaskId) (y z : Part) → Has (run id_cmp id_total id_tied needs one.list.ids l laid₁ i) id → IsPlaced one.list.ids l T id y → IsPlaced other.list.ids l' T' id z → (unnumbered y ≡ unnumbered z) × (needs' id ≡ needs id)
    alike id y z h a b =
        let g = is_good id h in
        let q = owner_of id g in
        let args : y.args ≡ z.args = ap (λ (x : Part). x.args) (sym a.2)
        ∙ words a.0 b.0 id (record { member = q.0; is = q.1; stays = q.2 }) (ap (λ ids. slice_get ids a.0) one.ids ∙ a.1) (ap (λ ids. slice_get ids b.0) other.ids ∙ b.1)
        ∙ ap (λ (x : Part). x.args) b.2 in
        (same_part contents targets p files env sound is choice no_lock _ _ y z refl q.0 q.1 q.2 (fine.firm id g q.0 q.1) args a.3 b.3, same_needs id g)

    parts : sub_parts l (in_closure l i) ≡ sub_parts l' (in_closure l' j)
    parts = parts_same id_cmp id_total id_tied needs needs' one.list.ids other.list.ids l l' laid₁ laid₂ good fine.holds same_needs i j t at at' first T T'
        (parts_are contents env files whole one) (parts_are (pruned_contents contents p) env (pruned_files p files) part other) alike

    abbrev t_names : Path → Bool
    t_names path = names (sub_parts l (in_closure l i)) path

    abbrev Taken : Path → Type 0
    Taken path = (id : TaskId) × (Has (run id_cmp id_total id_tied needs one.list.ids l laid₁ i) id) × (y : Part) × T id y × (is_among y.inputs path ≡ true)

    taken_by : (path : Path) → t_names path ≡ true → Taken path
    taken_by path h = named_by one.list.ids l T (parts_are contents env files whole one) (in_closure l i) path h

    -- what is taken in the whole stays, with its bytes
    staying : (path : Path) → t_names path ≡ true → (is.picked.test path ≡ true) × (files path ≡ pruned_files p files path)
    staying path h =
        let r = taken_by path h in
        let k = taken contents env files whole one r.0 r.2 r.3 path r.4 in
        let q = owner_of r.0 (is_good r.0 r.1) in
        let m : r.3.member ≡ q.0 = some_inj r.3.member q.0 (sym r.3.stands ∙ q.1) in
        let def : task_def contents.setup q.0.name r.0.task ≡ Some r.3.def = ap (λ (o : Package). task_def contents.setup o.name r.0.task) (sym m) ∙ r.3.defined in
        let own = (found_owner contents.space r.0.«package» q.0 q.1).0 in
        let takes = ap (λ (o : Package). takes_input contents.setup contents.space files contents.walk o r.3.def path) (sym m) ∙ k.1 in (
          taken_stays contents targets p files sound is q.0 own q.2 r.0.task r.3.def def (no_lock q.0 r.0.task r.3.def own q.2 def) path takes,
          same_bytes contents targets p files sound is q.0 own q.2 r.0.task r.3.def def (no_lock q.0 r.0.task r.3.def own q.2 def) path k.0 takes,
        )

    needed_here : (path : Path) → t_names path ≡ true → is_needed contents.setup contents.space files contents.walk (wanted_of one.entries one.args one.list) path ≡ true
    needed_here path h =
        let r = taken_by path h in
        is_wanted contents env files whole one r.0 (run_within id_cmp id_total id_tied needs one.list.ids l laid₁ i r.0 r.1) r.2 r.3 path (taken contents env files whole one r.0 r.2 r.3 path r.4).1

    needed_there : (path : Path) → t_names path ≡ true → is_needed setup' space' (pruned_files p files) p.paths (wanted_of other.entries other.args other.list) path ≡ true
    needed_there path h =
        let r = named_by other.list.ids l' T' (parts_are (pruned_contents contents p) env (pruned_files p files) part other) (in_closure l' j) path (ap (λ ps. names ps path) (sym parts) ∙ h) in
        is_wanted (pruned_contents contents p) env (pruned_files p files) part other r.0 (run_within id_cmp id_total id_tied needs' other.list.ids l' laid₂ j r.0 r.1) r.2 r.3 path
        (taken (pruned_contents contents p) env (pruned_files p files) part other r.0 r.2 r.3 path r.4).1

    held : filter (λ f. t_names f.0) l.files ≡ filter (λ f. t_names f.0) l'.files
    unfolding needed
    held =
        ap (filter (λ f. t_names f.0)) one.listing.files_are
        ∙ named_files t_names (is_needed contents.setup contents.space files contents.walk (wanted_of one.entries one.args one.list))
        (is_needed setup' space' (pruned_files p files) p.paths (wanted_of other.entries other.args other.list)) is.picked.test files (pruned_files p files) contents.walk p.paths is.picked.are
        (λ path h n. needed_here path n) (λ path h n. needed_there path n) (λ path n. (staying path n).0) (λ path n. (staying path n).1)
        ∙ ap (filter (λ f. t_names f.0)) (sym other.listing.files_are)

    pub same_closure : closure whole.listing i ≡ closure part.listing j
    same_closure = closure_same l l' i j parts held

  -- ---- the task, and those on which it stands

  module _ (i j : ℕ) (id : TaskId) (q : Package) (owned : owner_named contents.space id.«package» ≡ Some q) (k : p.set q.folder ≡ true) (script : is_some (text_by id.task q.manifest.scripts) ≡ true)
      (here : slice_get whole.ids i ≡ Some id) (there : slice_get part.ids j ≡ Some id) where
    abbrev at : slice_get one.list.ids i ≡ Some id
    at = ap (λ ids. slice_get ids i) (sym one.ids) ∙ here

    abbrev at' : slice_get other.list.ids j ≡ Some id
    at' = ap (λ ids. slice_get ids j) (sym other.ids) ∙ there

    -- where the root has a turbo.json, all tasks of owners that stay
    all_good : (tasks : Tasks) → contents.setup.root ≡ Some tasks → IsGood stays
    all_good tasks e = record {
      kept = λ x g. g;
      firm = λ x g o u. inl (tasks, e);
      holds = λ x y g n. let o = kept_owner contents.space p.set x g in edges_kept contents targets p.set sound is.kept.0 x o.0 o.1 o.2 y n;
    }

    -- where it has none, the task alone
    abbrev itself : TaskId → Bool
    itself x = is_at (id_cmp id) x

    one_good : contents.setup.root ≡ None → IsGood itself
    one_good e = record {
      kept = λ x g. ap stays (sym (same x g)) ∙ kept_from contents.space p.set id q owned k;
      firm = λ x g o u. subst (λ y. IsFirm contents.setup o y.task) (same x g) (subst (λ w. IsFirm contents.setup w id.task) (some_inj q o (sym owned ∙ ap (λ (y : TaskId). owner_named contents.space y.«package») (same x g) ∙ u)) (firm_script contents.setup q id.task script));
      holds = λ x y g n. absurd (subst (λ ns. Has ns y) (ap needs (sym (same x g)) ∙ bare_edges contents targets p.set sound is.kept.0 id q owned k e) n);
    }
      where
        same : (x : TaskId) → itself x ≡ true → id ≡ x
        same x g = at_is id_cmp id_total id_tied id x g

    pub task_closure : closure whole.listing i ≡ closure part.listing j
    task_closure = by contents.setup.root refl
      where
        by : (o : Option Tasks) → contents.setup.root ≡ o → closure whole.listing i ≡ closure part.listing j
        by None e = same_closure itself (one_good e) i j id at at' (at_self id_cmp id_total id_tied id)
        by (Some tasks) e = same_closure stays (all_good tasks e) i j id at at' (kept_from contents.space p.set id q owned k)
