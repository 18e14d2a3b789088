-- The plan of an order for a target is the plan of the pruned repository.
use Rattle.std.proofs.Common.{◌≡◌, ℕ, Bool, true, false, List, [], ◌∷◌, Option, Some, None, zip, refl, sym, ap, ◌∙◌, subst, inl, inr}
use Rattle.std.specs.Prelude.{Result, Ok, Err, find}
use Rattle.rel_path.specs.Files.{FileMap}
use Rattle.workspaces.specs.Lists.{Has, places}
use Rattle.turbo_config.specs.declared.task_id.TaskId.{TaskId}
use Rattle.task_definitions.specs.Setup.{Setup, task_def}
use Rattle.filters.specs.declared.error.FilterErr.{FilterErr}
use Rattle.filters.specs.Selection.{AreSelectedBy, words_fault}
use Rattle.task_graph.specs.declared.error.GraphErr.{GraphErr}
use Rattle.task_graph.specs.declared.node.Node.{Node}
use Rattle.task_graph.specs.declared.plan.PlanList.{PlanList}
use Rattle.task_graph.specs.Entries.{entry_tasks}
use Rattle.task_graph.specs.Graphs.{AreTasks, nodes_of, MeansFrom, Means as MeansGraph}
use Rattle.task_graph.specs.Ids.{id_cmp, has}
use Rattle.task_graph.specs.Nodes.{ids_of}
use Rattle.task_graph.specs.Persistent.{is_persistent}
use Rattle.listing.specs.declared.part.Listing.{Listing}
use Rattle.collect.specs.declared.error.CollectErr.{CollectErr}
use Rattle.collect.specs.declared.wanted.Wanted.{Wanted}
use Rattle.collect.specs.Refusals.{Collects}
use Rattle.refusals.specs.declared.refusal.Refusal.{Refusal}
use Rattle.run_plan.specs.declared.plan.Plan.{Plan}
use Rattle.repository.specs.Steps.{IsRefusal}
use Rattle.repository.specs.Reading.{Contents}
use Rattle.planner.specs.Refusals.{filter_refusal, graph_refusal, collect_refusal}
use Rattle.planner.specs.Wanted.{asks_all, named, wanted_at, wanted_of}
use Rattle.planner.specs.Plans.{Answer, entries_of, AfterFiltersOf, AfterGraphOf, AfterGraph, AfterOrder, AfterPersistent, AfterCollectOf, AfterCollect, IsPlanOf, Plans}
use Rattle.pruned_files.specs.Pruned.{kept_packages, pruned_files, pruned_contents}
use Rattle.prune_facts.proofs.Lists.{map-has}
use Rattle.prune_facts.proofs.Following.{has_among}
use Rattle.prune_facts.proofs.Pairing.{pairs_within}
use Rattle.prune_laws.proofs.Owners.{IsSound}
use Rattle.prune_laws.proofs.Graphs.{id_total, id_tied}
use Rattle.prune_laws.proofs.Reading.{sound_of}
use Rattle.prune_plans.specs.Laws.{AsksTarget, Asked}
use Rattle.prune_plans.proofs.Selecting.{is_named, selected_is, selects, no_fault}
use Rattle.prune_plans.proofs.Entering.{target_stays, same_entries, entry_fine}
use Rattle.prune_plans.proofs.Reaching.{IsFine, ids_are, planned_in, id_def, all_fine, still_tasks, still_made, persistent_same}
use Rattle.prune_plans.proofs.Collecting.{still_collects}

zip_first : {X Y : Type 0} (xs : List X) (ys : List Y) (pair : X × Y) → Has (zip xs ys) pair → Has xs pair.0
zip_first [] ys pair h = absurd h
zip_first (x ∷ xs) [] pair h = absurd h
zip_first (x ∷ xs) (y ∷ ys) pair (inl e) = inl (ap (λ (q : _ × _). q.0) e)
zip_first (x ∷ xs) (y ∷ ys) pair (inr h) = inr (zip_first xs ys pair h)

no_refusal : (reason : Option Refusal) (plan : Plan) → IsRefusal {B = Plan} reason (Ok plan) → ⊥
no_refusal None plan h = h
no_refusal (Some reason) plan h = cc

module _ (asked : Asked) where
  open asked use {files, contents, targets, pruning, order, env, plan}

  sound : IsSound contents.space contents.setup
  sound = sound_of files contents asked.means

  abbrev contents' : Contents
  contents' = pruned_contents contents pruning

  abbrev files' : FileMap
  files' = pruned_files pruning files

  abbrev Fine : TaskId → Type 0
  Fine id = IsFine contents pruning.set id

  -- ---- the steps of planning, the last first

  abbrev Ends : Setup → PlanList → Listing → Answer → Type 0
  Ends setup list listing end = (plan : Plan) × (end ≡ Ok plan) × IsPlanOf setup order env list listing plan

  abbrev Collected : Contents → FileMap → List TaskId → PlanList → Answer → Type 0
  Collected c fs entries list = AfterCollect c fs env (wanted_of entries order.args list) (λ listing end. Ends c.setup list listing end)

  abbrev Ordered : Contents → FileMap → List TaskId → List Node → Answer → Type 0
  Ordered c fs entries nodes = AfterOrder nodes (λ list. AfterPersistent (find (is_persistent c.space c.setup) (ids_of nodes)) (Collected c fs entries list))

  abbrev Graphed : Contents → FileMap → List ℕ → Answer → Type 0
  Graphed c fs selected = AfterGraph c.space c.setup selected (asks_all order.filters) order.tasks (λ nodes. Ordered c fs (entries_of c order selected) nodes)

  planned : (list : PlanList) → ((id : TaskId) → Has list.ids id → Fine id) → (listing : Listing) → Ends contents.setup list listing (Ok plan) → Ends contents'.setup list listing (Ok plan)
  planned list fine listing s = (
    s.0,
    s.1,
    record {
      ids = s.2.ids;
      defs = pairs_within (λ id def. task_def contents.setup id.«package» id.task ≡ Some def) (λ id def. task_def contents'.setup id.«package» id.task ≡ Some def) list.ids s.0.defs
          (λ id def h e. id_def contents targets pruning.set sound asked.prunes.kept.0 id (fine id h) ∙ e) s.2.defs;
      listing_is = s.2.listing_is;
      passed = s.2.passed;
      given = s.2.given;
      width = s.2.width;
      mode = s.2.mode;
      force = s.2.force;
      logs = s.2.logs;
      limit = s.2.limit;
    },
  )

  collected : (entries : List TaskId) (list : PlanList) → ((id : TaskId) → Has list.ids id → Fine id) → Collected contents files entries list (Ok plan) → Collected contents' files' entries list (Ok plan)
  collected entries list fine s = by s.0 s.1 s.2
    where
      wanted_fine : (w : Wanted) → Has (wanted_of entries order.args list) w → Fine w.id
      wanted_fine w h =
          let pair = map-has (λ (pair : TaskId × List ℕ). wanted_at entries order.args pair.0 pair.1) (zip list.ids list.deps) w h in
          subst (λ (w : Wanted). Fine w.id) pair.2 (fine pair.0.0 (zip_first list.ids list.deps pair.0 pair.1))

      by : (r : Result Listing CollectErr) → Collects contents.setup contents.space contents.lock files contents.walk env (wanted_of entries order.args list) r
          → AfterCollectOf r (λ listing end. Ends contents.setup list listing end) (Ok plan) → Collected contents' files' entries list (Ok plan)
      by (Ok listing) c n = (Ok listing, still_collects contents targets pruning files env sound asked.prunes asked.no_lock (wanted_of entries order.args list) wanted_fine listing c, planned list fine listing n)
      by (Err fault) c n = absurd (no_refusal (collect_refusal fault) plan n)

  ended : (task : Option TaskId) (rest other : Answer → Type 0) → (rest (Ok plan) → other (Ok plan)) → AfterPersistent task rest (Ok plan) → AfterPersistent task other (Ok plan)
  ended None rest other go s = go s
  ended (Some task) rest other go s = absurd (cc)

  module _ (starts graph : List TaskId) (tasks : AreTasks contents.space contents.setup starts graph) (begun : (id : TaskId) → Has starts id → Fine id) (nodes : List Node) (made : nodes_of contents.space contents.setup graph ≡ Ok nodes) where
    node_fine : (id : TaskId) → has (ids_of nodes) id ≡ true → Fine id
    node_fine id h = all_fine contents targets pruning.set sound asked.prunes.kept.0 starts graph tasks begun id (ap (λ ids. has ids id) (sym (ids_are contents.space contents.setup graph nodes made)) ∙ h)

    ordered : (entries : List TaskId) → Ordered contents files entries nodes (Ok plan) → Ordered contents' files' entries nodes (Ok plan)
    ordered entries (inl s) =
        let same = persistent_same contents targets pruning.set sound asked.prunes.kept.0 (ids_of nodes) (λ id h. node_fine id (has_among id_cmp id_total id_tied (ids_of nodes) id h)) in
        inl (
          s.0,
          s.1,
          subst (λ o. AfterPersistent o (Collected contents' files' entries s.0) (Ok plan)) (sym same)
              (ended (find (is_persistent contents.space contents.setup) (ids_of nodes)) (Collected contents files entries s.0) (Collected contents' files' entries s.0)
              (collected entries s.0 (λ id h. node_fine id (planned_in nodes s.0 s.1 id h))) s.2),
        )
    ordered entries (inr s) = let e = s.2 in absurd (cc)

  -- ---- the selected packages

  abbrev asks : AsksTarget contents targets order
  asks = asked.asks

  abbrev here : List ℕ
  here = places (is_named asks.target.name) contents.space.packages

  abbrev there : List ℕ
  there = places (is_named asks.target.name) (kept_packages contents.space pruning.set)

  filtered : false ≡ asks_all order.filters
  filtered = sym (ap asks_all asks.filters)

  -- the tasks that are named
  entries_here : (selected : List ℕ) → Bool → Result (List TaskId) GraphErr
  entries_here selected all = entry_tasks contents.space contents.setup selected all order.tasks

  entries_there : (selected : List ℕ) → Bool → Result (List TaskId) GraphErr
  entries_there selected all = entry_tasks contents'.space contents'.setup selected all order.tasks

  named_same : entries_there there (asks_all order.filters) ≡ entries_here here (asks_all order.filters)
  unfolding entries_here entries_there
  named_same = subst (λ all. entries_there there all ≡ entries_here here all) filtered (same_entries contents targets pruning.set sound asked.prunes.kept.0 asks.target asks.stands asks.named order.tasks asks.tasks)

  named_fine : (starts : List TaskId) → entries_here here (asks_all order.filters) ≡ Ok starts → (id : TaskId) → Has starts id → Fine id
  unfolding entries_here
  named_fine starts e = entry_fine contents targets pruning.set sound asked.prunes.kept.0 asks.target asks.stands asks.named order.tasks asks.tasks starts (ap (entries_here here) filtered ∙ e)

  graphed : Graphed contents files here (Ok plan) → Graphed contents' files' there (Ok plan)
  unfolding entries_here entries_there
  graphed s = by s.0 s.1 s.2
    where
      by : (graph : Result (List Node) GraphErr) → MeansGraph contents.space contents.setup here (asks_all order.filters) order.tasks graph
          → AfterGraphOf graph (λ nodes. Ordered contents files (entries_of contents order here) nodes) (Ok plan) → Graphed contents' files' there (Ok plan)
      by (Err fault) m r = absurd (no_refusal (graph_refusal fault) plan r)
      by (Ok nodes) m r = from (entries_here here (asks_all order.filters)) refl m
        where
          from : (entered : Result (List TaskId) GraphErr) → entries_here here (asks_all order.filters) ≡ entered → MeansFrom contents.space contents.setup entered (Ok nodes) → Graphed contents' files' there (Ok plan)
          from (Err fault) e g = absurd (cc)
          from (Ok starts) e g =
              let begun = named_fine starts e in
              let kept = asked.prunes.kept.0 in
              let means : MeansFrom contents'.space contents'.setup (Ok starts) (Ok nodes) = record {
                ids = g.ids;
                are = still_tasks contents targets pruning.set sound kept starts g.ids g.are begun;
                nodes = still_made contents targets pruning.set sound kept starts g.ids g.are begun nodes g.nodes;
              } in
              let rest = ordered starts g.ids g.are begun nodes g.nodes (entries_of contents order here) r in (
                Ok nodes,
                subst (λ entered. MeansFrom contents'.space contents'.setup entered (Ok nodes)) (sym (named_same ∙ e)) means,
                subst (λ entries. Ordered contents' files' entries nodes (Ok plan)) (ap named (sym named_same)) rest,
              )

  -- ---- the plan

  no_fault_there : words_fault contents'.space.packages order.filters ≡ None
  no_fault_there = ap (words_fault contents'.space.packages) asks.filters ∙ no_fault contents'.space.packages asks.target.name asks.plain asks.target (target_stays contents targets pruning.set sound asked.prunes.kept.0 asks.target asks.stands asks.named) refl

  selected_there : AreSelectedBy contents'.space.packages order.filters there
  selected_there = subst (λ words. AreSelectedBy contents'.space.packages words there) (sym asks.filters) (selects contents'.space.packages asks.target.name asks.plain)

  selected_here : (selected : List ℕ) → AreSelectedBy contents.space.packages order.filters selected → selected ≡ here
  selected_here selected s = selected_is contents.space.packages asks.target.name asks.plain selected (subst (λ words. AreSelectedBy contents.space.packages words selected) asks.filters s)

  pub same_plan : Plans contents' order env files' (Ok plan)
  same_plan = by (words_fault contents.space.packages order.filters) asked.plans
    where
      by : (fault : Option FilterErr) → AfterFiltersOf fault contents.space.packages order.filters (Graphed contents files) (Ok plan) → Plans contents' order env files' (Ok plan)
      by (Some fault) s = absurd (no_refusal (filter_refusal fault) plan s)
      by None s =
          let graph = graphed (subst (λ selected. Graphed contents files selected (Ok plan)) (selected_here s.0 s.1) s.2) in
          subst (λ fault. AfterFiltersOf fault contents'.space.packages order.filters (Graphed contents' files') (Ok plan)) (sym no_fault_there) (there, selected_there, graph)
