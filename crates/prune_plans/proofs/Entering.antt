-- The tasks that an order for a target names are the same in the pruned repository.
use Rattle.std.proofs.Common.{◌≡◌, ◌&&◌, ℕ, zero, suc, Bool, true, false, cond, not, List, [], ◌∷◌, ◌++◌, Option, Some, None, map, filter, refl, sym, ap, ◌∙◌, subst, inl, inr}
use Rattle.std.specs.Prelude.{Result, Ok, Err, is_some}
use Rattle.std.specs.List.{list_any, AllByRecursion}
use Rattle.std.proofs.lemmas.Bool.{and_parts, false≢true, false_from_ne_true}
use Rattle.rel_path.specs.Paths.{Path}
use Rattle.turbo_config.specs.Names.{has_hash, is_reserved, is_task_name}
use Rattle.turbo_config.specs.declared.task_id.TaskId.{TaskId}
use Rattle.task_definitions.specs.Setup.{Tasks, Setup, task_def, is_name_by, is_name}
use Rattle.workspaces.specs.declared.member.Package.{Package}
use Rattle.workspaces.specs.Lists.{Has, places}
use Rattle.workspaces.specs.Space.{Space, root_package, owners}
use Rattle.workspaces.specs.Steps.{name_at}
use Rattle.task_graph.specs.declared.error.GraphErr.{GraphErr}
use Rattle.task_graph.specs.declared.error.GraphErr.TheVariants.{NoSuchTask}
use Rattle.task_graph.specs.Ids.{task_id}
use Rattle.task_graph.specs.Tasks.{has_def, is_task, is_hash, is_full, full_id, tasks_in}
use Rattle.task_graph.specs.Entries.{word_tasks, is_unknown, and_more, entry_tasks}
use Rattle.repository.specs.Reading.{Contents}
use Rattle.kept_packages.specs.Kept.{IsClosed, is_target}
use Rattle.pruned_files.specs.Pruned.{kept_packages, pruned_setup}
use Rattle.prune_facts.proofs.Lists.{not_true, not_from, some_of, any_has, has_any, has-append, map-has, filter-has, has-filter, filter_same, filter-filter}
use Rattle.prune_facts.proofs.Defining.{defined_name}
use Rattle.prune_laws.proofs.Owners.{IsSound, part_of, package_owner, owner_is, one_owner, plain_name}
use Rattle.prune_laws.proofs.Defs.{firm_script, same_def}
use Rattle.prune_plans.specs.Laws.{IsConfigured}
use Rattle.prune_plans.proofs.Selecting.{is_named, named_is}
use Rattle.prune_plans.proofs.Reaching.{IsFine}

-- ---- the tasks of one name

map-map : {X Y Z : Type 0} (f : Y → Z) (g : X → Y) (xs : List X) → map f (map g xs) ≡ map (λ x. f (g x)) xs
map-map f g [] = refl
map-map f g (x ∷ xs) = ap (λ ys. f (g x) ∷ ys) (map-map f g xs)

-- by the names at the places of what passes
at_places : {Y : Type 0} (t : Package → Bool) (f : List ℕ → Y) (packages rest : List Package) → map (λ o. f (name_at (packages ++ rest) o)) (places t packages) ≡ map (λ (q : Package). f q.name) (filter t packages)
unfolding places
at_places t f [] rest = refl
at_places t f (p ∷ packages) rest = by (t p) (map-map (λ o. f (name_at (p ∷ packages ++ rest) o)) suc (places t packages) ∙ at_places t f packages rest)
  where
    by : (b : Bool) → map (λ o. f (name_at (p ∷ packages ++ rest) o)) (map suc (places t packages)) ≡ map (λ (q : Package). f q.name) (filter t packages)
        → map (λ o. f (name_at (p ∷ packages ++ rest) o)) (cond b (zero ∷ map suc (places t packages)) (map suc (places t packages))) ≡ map (λ (q : Package). f q.name) (cond b (p ∷ filter t packages) (filter t packages))
    by true e = ap (λ ys. f p.name ∷ ys) e
    by false e = e

-- the name of a task has no `#`
middle : (a b c : Bool) → ((a && b) && c) ≡ true → b ≡ true
middle true true c h = refl
middle true false c h = h
middle false b c h = absurd (false≢true h)

no_hash : (setup : Setup) (task : List ℕ) → is_name setup task ≡ true → is_full task ≡ false
unfolding is_name is_task_name
no_hash setup task h = by setup.root h
  where
    plain : is_task_name task ≡ true → is_full task ≡ false
    plain k = false_from_ne_true (is_full task) (λ f.
        let b = any_has is_hash task f in
        let reserved : is_reserved b.0 ≡ true = rw b.2 refl in
        not_true (list_any is_reserved task) (middle _ (not (list_any is_reserved task)) _ k) (has_any is_reserved task b.0 b.1 reserved))

    by : (r : Option Tasks) → is_name_by r setup task ≡ true → is_full task ≡ false
    by None k = plain (and_parts (is_task_name task) _ k).0
    by (Some tasks) k = not_from (has_hash task) (and_parts (not (has_hash task)) _ k).0

-- ---- in both repositories

module _ (contents : Contents) (targets : List (List ℕ)) (set : Path → Bool) (sound : IsSound contents.space contents.setup) (closed : IsClosed contents targets set)
    (target : Package) (stands : Has contents.space.packages target) (named : is_target targets target ≡ true) where
  abbrev part : Space
  part = part_of contents.space set

  abbrev setup' : Setup
  setup' = pruned_setup contents.setup contents.space set

  -- the places of what the filter selects
  abbrev here : List ℕ
  here = places (is_named target.name) contents.space.packages

  abbrev there : List ℕ
  there = places (is_named target.name) (kept_packages contents.space set)

  it_stays : set target.folder ≡ true
  it_stays = closed.named target stands named

  pub target_stays : Has (kept_packages contents.space set) target
  target_stays = has-filter (λ (q : Package). set q.folder) contents.space.packages target stands it_stays

  its_owner : Has (owners contents.space) target
  its_owner = package_owner contents.space target stands

  -- no other package has its name
  only_target : (q : Package) → Has contents.space.packages q → is_named target.name q ≡ true → q ≡ target
  only_target q h k = sound.once q target h stands (named_is target.name q k)

  same_named : filter (is_named target.name) (kept_packages contents.space set) ≡ filter (is_named target.name) contents.space.packages
  same_named = filter-filter (is_named target.name) (λ (q : Package). set q.folder) contents.space.packages (λ q h k. ap (λ (o : Package). set o.folder) (only_target q h k) ∙ it_stays)

  -- ---- one task

  module _ (task : List ℕ) (its : IsConfigured contents.setup target task) where
    abbrev its_task : Package → TaskId
    its_task q = task_id q.name task

    still_def : task_def setup' target.name task ≡ task_def contents.setup target.name task
    still_def = same_def contents.space contents.setup sound set target task its_owner it_stays (firm_script contents.setup target task its.scripted)

    known : (setup : Setup) → is_some (task_def setup target.name task) ≡ true → is_name setup task ≡ true
    known setup d = let def = some_of (task_def setup target.name task) d in defined_name setup target.name task (plain_name contents.space contents.setup sound target its_owner) def.0 def.1

    not_full : is_full task ≡ false
    not_full = no_hash contents.setup task (known contents.setup its.defined)

    not_unknown : (space : Space) (setup : Setup) → is_some (task_def setup target.name task) ≡ true → is_unknown space setup task ≡ false
    unfolding is_unknown
    not_unknown space setup d = let k = known setup d in λ j. cond (not_full j) (not (is_task space setup (full_id task))) (not (k j))

    -- a task of the name of what is selected is that of the target
    of_target : (y : TaskId) → Has (map (λ (q : Package). task_id q.name task) (filter (is_named target.name) contents.space.packages)) y → task_id target.name task ≡ y
    of_target y h =
        let q = map-has its_task (filter (is_named target.name) contents.space.packages) y h in
        let r = filter-has (is_named target.name) contents.space.packages q.0 q.1 in
        sym (ap its_task (only_target q.0 r.0 r.1)) ∙ q.2

    here_is : tasks_in (owners contents.space) contents.setup here task ≡ filter (has_def contents.setup) (map its_task (filter (is_named target.name) contents.space.packages))
    here_is = ap (filter (has_def contents.setup)) (at_places (is_named target.name) (λ n. task_id n task) contents.space.packages (root_package contents.space.root ∷ []))

    same_tasks : tasks_in (owners part) setup' there task ≡ tasks_in (owners contents.space) contents.setup here task
    same_tasks =
        ap (filter (has_def setup')) (at_places (is_named target.name) (λ n. task_id n task) (kept_packages contents.space set) (root_package contents.space.root ∷ []))
        ∙ ap (λ ps. filter (has_def setup') (map its_task ps)) same_named
        ∙ filter_same (has_def setup') (has_def contents.setup) (map its_task (filter (is_named target.name) contents.space.packages))
        (λ y h. let e = of_target y h in ap (has_def setup') (sym e) ∙ ap is_some still_def ∙ ap (has_def contents.setup) e)
        ∙ sym here_is

    same_word : word_tasks part setup' there false task ≡ word_tasks contents.space contents.setup here false task
    unfolding word_tasks
    same_word = ap (λ ts. cond (is_full task) (full_id task ∷ []) ts) same_tasks

    word_fine : (y : TaskId) → Has (word_tasks contents.space contents.setup here false task) y → IsFine contents set y
    unfolding word_tasks
    word_fine y h =
        let in_word : Has (tasks_in (owners contents.space) contents.setup here task) y = subst (λ b. Has (cond b (full_id task ∷ []) (tasks_in (owners contents.space) contents.setup here task)) y) not_full h in
        let r = filter-has (has_def contents.setup) (map its_task (filter (is_named target.name) contents.space.packages)) y (subst (λ ts. Has ts y) here_is in_word) in
        subst (IsFine contents set) (of_target y r.0) (record {
          owner = target;
          owned = owner_is contents.space (one_owner contents.space contents.setup sound) target.name target its_owner refl;
          stays = it_stays;
          firm = firm_script contents.setup target task its.scripted;
        })

  -- ---- all tasks

  pub same_entries : (words : List (List ℕ)) → AllByRecursion (IsConfigured contents.setup target) words → entry_tasks part setup' there false words ≡ entry_tasks contents.space contents.setup here false words
  same_entries [] all = refl
  same_entries (word ∷ words) all =
      let a = not_unknown word all.0 part setup' (ap is_some (still_def word all.0) ∙ all.0.defined) ∙ sym (not_unknown word all.0 contents.space contents.setup all.0.defined) in
      let b = same_word word all.0 in
      let c = same_entries words all.1 in
      λ j. cond (a j) (Err (NoSuchTask word)) (and_more (b j) (c j))

  pub entry_fine : (words : List (List ℕ)) → AllByRecursion (IsConfigured contents.setup target) words → (starts : List TaskId) → entry_tasks contents.space contents.setup here false words ≡ Ok starts
      → (id : TaskId) → Has starts id → IsFine contents set id
  entry_fine [] all starts e id h = let none : starts ≡ [] = cc in absurd (subst (λ ids. Has ids id) none h)
  entry_fine (word ∷ words) all starts e id h = by (entry_tasks contents.space contents.setup here false words) refl (sym known_word ∙ e) (entry_fine words all.1)
    where
      known_word : entry_tasks contents.space contents.setup here false (word ∷ words) ≡ and_more (word_tasks contents.space contents.setup here false word) (entry_tasks contents.space contents.setup here false words)
      known_word = ap (λ b. cond b (Err (NoSuchTask word)) (and_more (word_tasks contents.space contents.setup here false word) (entry_tasks contents.space contents.setup here false words))) (not_unknown word all.0 contents.space contents.setup all.0.defined)

      by : (r : Result (List TaskId) GraphErr) → entry_tasks contents.space contents.setup here false words ≡ r → and_more (word_tasks contents.space contents.setup here false word) r ≡ Ok starts
          → ((more : List TaskId) → entry_tasks contents.space contents.setup here false words ≡ Ok more → (x : TaskId) → Has more x → IsFine contents set x) → IsFine contents set id
      by (Ok more) k l rest =
          let same : starts ≡ word_tasks contents.space contents.setup here false word ++ more = cc in
          elim (has-append (word_tasks contents.space contents.setup here false word) more id (subst (λ ids. Has ids id) same h)) [ inl a ↦ word_fine word all.0 id a | inr b ↦ rest more k id b ]
      by (Err fault) k l rest = absurd (cc)
