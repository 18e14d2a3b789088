-- What a plan of a repository was made of.
use Rattle.std.proofs.Common.{◌≡◌, ℕ, Bool, true, List, Option, Some, None, map, sym, ap, ◌∙◌, subst, inl, inr}
use Rattle.std.specs.Prelude.{Result, Ok, Err, find}
use Rattle.std.specs.List.{list_any}
use Rattle.std.proofs.lemmas.Bool.{and_parts}
use Rattle.rel_path.specs.Paths.{Path, is_among}
use Rattle.rel_path.specs.Files.{FileMap}
use Rattle.cli_words.specs.declared.order.RunOrder.{RunOrder}
use Rattle.workspaces.specs.declared.member.Package.{Package}
use Rattle.workspaces.specs.Lists.{Has}
use Rattle.workspaces.specs.Space.{owner_named}
use Rattle.turbo_config.specs.declared.task_id.TaskId.{TaskId}
use Rattle.turbo_config.specs.declared.entry.TaskDef.{TaskDef}
use Rattle.filters.specs.declared.error.FilterErr.{FilterErr}
use Rattle.filters.specs.Selection.{words_fault}
use Rattle.task_graph.specs.declared.error.GraphErr.{GraphErr}
use Rattle.task_graph.specs.declared.node.Node.{Node}
use Rattle.task_graph.specs.declared.plan.PlanList.{PlanList}
use Rattle.task_graph.specs.Entries.{entry_tasks}
use Rattle.task_graph.specs.Graphs.{AreTasks, nodes_of, MeansFrom, Means as MeansGraph}
use Rattle.task_graph.specs.Nodes.{ids_of}
use Rattle.task_graph.specs.Plans.{IsPlan}
use Rattle.task_graph.specs.Persistent.{is_persistent}
use Rattle.task_graph.specs.Edges.{edges}
use Rattle.listing.specs.declared.part.Part.{Part}
use Rattle.listing.specs.declared.part.Listing.{Listing}
use Rattle.collect.specs.declared.wanted.Wanted.{Wanted}
use Rattle.collect.specs.declared.error.CollectErr.{CollectErr}
use Rattle.collect.specs.Parts.{IsPart, takes_input}
use Rattle.collect.specs.Refusals.{Collects}
use Rattle.collect.specs.Listings.{ArePaired, IsListing, takes_by, takes_in, is_needed}
use Rattle.refusals.specs.declared.refusal.Refusal.{Refusal}
use Rattle.run_plan.specs.declared.plan.Plan.{Plan}
use Rattle.repository.specs.Steps.{IsRefusal}
use Rattle.repository.specs.Reading.{Contents}
use Rattle.planner.specs.Refusals.{filter_refusal, graph_refusal, collect_refusal}
use Rattle.planner.specs.Wanted.{asks_all, wanted_of}
use Rattle.planner.specs.Plans.{Answer, entries_of, AfterFiltersOf, AfterGraphOf, AfterOrder, AfterPersistent, AfterCollectOf, AfterCollect, IsPlanOf, Plans}
use Rattle.prune_facts.proofs.Lists.{has_any, has-map}
use Rattle.prune_laws.proofs.Ignoring.{among-filter}
use Rattle.prune_facts.proofs.Laying.{IsLaid}
use Rattle.prune_laws.proofs.Graphs.{id_total, id_tied, wants, laid_out, listed_parts, wanted_are}
use Rattle.task_graph.specs.Ids.{id_cmp}

-- the graph, its order and the listing behind a plan
pub record IsRun (contents : Contents) (env : List (List ℕ × List ℕ)) (files : FileMap) (plan : Plan) : Type 0 where
  pub entries : List TaskId
  pub args : List (List ℕ)
  pub starts : List TaskId
  pub graph : List TaskId
  pub nodes : List Node
  pub tasks : AreTasks contents.space contents.setup starts graph
  pub made : nodes_of contents.space contents.setup graph ≡ Ok nodes
  pub list : PlanList
  pub planned : IsPlan nodes list
  pub ids : plan.ids ≡ list.ids
  pub listing : IsListing contents.setup contents.space contents.lock files contents.walk env (wanted_of entries args list) plan.listing

abbrev ok : Plan → Answer
ok plan = Ok plan

no_refusal : (reason : Option Refusal) (plan : Plan) → IsRefusal {B = Plan} reason (Ok plan) → ⊥
no_refusal None plan h = h
no_refusal (Some reason) plan h = cc

module _ (contents : Contents) (order : RunOrder) (env : List (List ℕ × List ℕ)) (files : FileMap) (plan : Plan) where
  abbrev Goal : Type 0
  Goal = IsRun contents env files plan

  collected : (entries : List TaskId) (args : List (List ℕ)) (starts graph : List TaskId) (nodes : List Node) → AreTasks contents.space contents.setup starts graph → nodes_of contents.space contents.setup graph ≡ Ok nodes
      → (list : PlanList) → IsPlan nodes list
      → AfterCollect contents files env (wanted_of entries args list) (λ listing end. (p : Plan) × (end ≡ Ok p) × IsPlanOf contents.setup order env list listing p) (Ok plan) → Goal
  collected entries args starts graph nodes tasks made list planned s = by s.0 s.1 s.2
    where
      of : (listing : Listing) (p : Plan) → ok plan ≡ ok p → IsPlanOf contents.setup order env list listing p → IsListing contents.setup contents.space contents.lock files contents.walk env (wanted_of entries args list) listing → Goal
      of listing p e is listed =
          let same : plan ≡ p = cc in
          record {
            entries = entries;
            args = args;
            starts = starts;
            graph = graph;
            nodes = nodes;
            tasks = tasks;
            made = made;
            list = list;
            planned = planned;
            ids = ap (λ (x : Plan). x.ids) same ∙ is.ids;
            listing = subst (λ l. IsListing contents.setup contents.space contents.lock files contents.walk env (wanted_of entries args list) l) (sym (ap (λ (x : Plan). x.listing) same ∙ is.listing_is)) listed;
          }

      by : (r : Result Listing CollectErr) → Collects contents.setup contents.space contents.lock files contents.walk env (wanted_of entries args list) r
          → AfterCollectOf r (λ listing end. (p : Plan) × (end ≡ Ok p) × IsPlanOf contents.setup order env list listing p) (Ok plan) → Goal
      by (Ok listing) c n = of listing n.0 n.1 n.2 c.0
      by (Err fault) c n = absurd (no_refusal (collect_refusal fault) plan n)

  persistent : (task : Option TaskId) (rest : Answer → Type 0) → AfterPersistent task rest (Ok plan) → rest (Ok plan)
  persistent None rest s = s
  persistent (Some task) rest s = absurd (cc)

  ordered : (nodes : List Node) (next : PlanList → Answer → Type 0) → AfterOrder nodes next (Ok plan) → (list : PlanList) × IsPlan nodes list × next list (Ok plan)
  ordered nodes next (inl s) = s
  ordered nodes next (inr s) = let e = s.2 in absurd (cc)

  graphed : (selected : List ℕ) (all : Bool) (words : List (List ℕ)) (nodes : List Node) → MeansGraph contents.space contents.setup selected all words (Ok nodes)
      → (starts : List TaskId) × (graph : List TaskId) × AreTasks contents.space contents.setup starts graph × (nodes_of contents.space contents.setup graph ≡ Ok nodes)
  graphed selected all words nodes m = by (entry_tasks contents.space contents.setup selected all words) m
    where
      by : (r : Result (List TaskId) GraphErr) → MeansFrom contents.space contents.setup r (Ok nodes) → (starts : List TaskId) × (graph : List TaskId) × AreTasks contents.space contents.setup starts graph × (nodes_of contents.space contents.setup graph ≡ Ok nodes)
      by (Ok starts) g = (starts, g.ids, g.are, g.nodes)
      by (Err fault) g = absurd (cc)

  pub run_of : Plans contents order env files (Ok plan) → IsRun contents env files plan
  run_of s = filtered (words_fault contents.space.packages order.filters) s
    where
      rest : List ℕ → List Node → Answer → Type 0
      rest selected nodes answer = AfterOrder nodes (λ list.
          AfterPersistent (find (is_persistent contents.space contents.setup) (ids_of nodes)) (
          AfterCollect contents files env (wanted_of (entries_of contents order selected) order.args list) (λ listing end.
          (p : Plan) × (end ≡ Ok p) × IsPlanOf contents.setup order env list listing p))) answer

      in_order : (selected : List ℕ) (nodes : List Node) → MeansGraph contents.space contents.setup selected (asks_all order.filters) order.tasks (Ok nodes) → rest selected nodes (Ok plan) → IsRun contents env files plan
      in_order selected nodes m r =
          let g = graphed selected (asks_all order.filters) order.tasks nodes m in
          let o = ordered nodes (λ list. AfterPersistent (find (is_persistent contents.space contents.setup) (ids_of nodes)) (
          AfterCollect contents files env (wanted_of (entries_of contents order selected) order.args list) (λ listing end.
          (p : Plan) × (end ≡ Ok p) × IsPlanOf contents.setup order env list listing p))) r in
          collected (entries_of contents order selected) order.args g.0 g.1 nodes g.2 g.3 o.0 o.1 (persistent (find (is_persistent contents.space contents.setup) (ids_of nodes)) _ o.2)

      in_graph : (selected : List ℕ) (graph : Result (List Node) GraphErr) → MeansGraph contents.space contents.setup selected (asks_all order.filters) order.tasks graph → AfterGraphOf graph (rest selected) (Ok plan) → IsRun contents env files plan
      in_graph selected (Ok nodes) m r = in_order selected nodes m r
      in_graph selected (Err fault) m r = absurd (no_refusal (graph_refusal fault) plan r)

      filtered : (fault : Option FilterErr) → AfterFiltersOf fault contents.space.packages order.filters (λ selected answer. (graph : Result (List Node) GraphErr) × MeansGraph contents.space contents.setup selected (asks_all order.filters) order.tasks graph × AfterGraphOf graph (rest selected) answer) (Ok plan) → IsRun contents env files plan
      filtered (Some fault) r = absurd (no_refusal (filter_refusal fault) plan r)
      filtered None r = in_graph r.0 r.2.0 r.2.1 r.2.2

-- ---- what the listing of such a run has

module _ (contents : Contents) (env : List (List ℕ × List ℕ)) (files : FileMap) (plan : Plan) (run : IsRun contents env files plan) where
  -- a task's part
  abbrev pub HasPart : TaskId → Part → Type 0
  HasPart id part = IsPart contents.setup contents.space contents.lock files contents.walk env (wants run.entries run.args run.nodes run.list id) part

  pub laid : IsLaid id_cmp id_total id_tied (edges contents.space contents.setup) run.list.ids plan.listing
  laid = laid_out contents.space contents.setup run.starts run.graph run.nodes run.tasks run.made run.entries run.args run.list run.planned plan.listing
      (IsPart contents.setup contents.space contents.lock files contents.walk env) (λ w part is. is.deps) run.listing.parts

  pub parts_are : ArePaired HasPart run.list.ids plan.listing.parts
  parts_are = listed_parts contents.space contents.setup run.starts run.graph run.nodes run.tasks run.made run.entries run.args run.list run.planned plan.listing
      (IsPart contents.setup contents.space contents.lock files contents.walk env) (λ w part is. is.deps) run.listing.parts

  abbrev takes : Package → TaskDef → Path → Bool
  takes = takes_input contents.setup contents.space files contents.walk

  -- an input of a task's part is a walked file that the task takes
  pub taken : (id : TaskId) (part : Part) → (is : HasPart id part) → (path : Path) → is_among part.inputs path ≡ true → (is_among contents.walk path ≡ true) × (takes_input contents.setup contents.space files contents.walk is.member is.def path ≡ true)
  taken id part is path h =
      let r = and_parts (is_among contents.walk path) _ (sym (among-filter (takes is.member is.def) contents.walk path) ∙ ap (λ paths. is_among paths path) (sym is.inputs) ∙ h) in
      (r.0, r.1)

  -- and such a file is needed
  pub is_wanted : (id : TaskId) → Has run.list.ids id → (part : Part) → (is : HasPart id part) → (path : Path) → takes_input contents.setup contents.space files contents.walk is.member is.def path ≡ true
      → is_needed contents.setup contents.space files contents.walk (wanted_of run.entries run.args run.list) path ≡ true
  is_wanted id h part is path t =
      ap (λ ws. list_any (λ (w : Wanted). takes_in takes contents.setup w path (owner_named contents.space w.id.«package»)) ws) (wanted_are run.entries run.args run.nodes run.list run.planned)
      ∙ has_any (λ (w : Wanted). takes_in takes contents.setup w path (owner_named contents.space w.id.«package»)) (map (wants run.entries run.args run.nodes run.list) run.list.ids) (wants run.entries run.args run.nodes run.list id)
      (has-map (wants run.entries run.args run.nodes run.list) run.list.ids id h)
      (ap (λ o. takes_in takes contents.setup (wants run.entries run.args run.nodes run.list id) path o) is.stands ∙ ap (takes_by takes path is.member) is.defined ∙ t)
