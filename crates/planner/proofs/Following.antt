-- How one step follows another.
use Rattle.std.proofs.Common.{◌≡◌, inl, inr, ℕ, Bool, List, sym, subst, Result, Ok, Err}
use Rattle.std.specs.Prelude.{Option, Some, None, find}
use Rattle.rel_path.specs.Files.{FileMap}
use Rattle.cli_words.specs.declared.order.RunOrder.{RunOrder}
use Rattle.workspaces.specs.declared.member.Package.{Package}
use Rattle.workspaces.specs.Space.{Space}
use Rattle.task_definitions.specs.Setup.{Setup}
use Rattle.turbo_config.specs.declared.task_id.TaskId.{TaskId}
use Rattle.filters.specs.declared.error.FilterErr.{FilterErr}
use Rattle.filters.specs.Selection.{AreSelectedBy, words_fault}
use Rattle.task_graph.specs.declared.error.GraphErr.{GraphErr}
use Rattle.task_graph.specs.declared.node.Node.{Node}
use Rattle.task_graph.specs.declared.plan.PlanList.{PlanList}
use Rattle.task_graph.specs.Graphs.{Means as MeansGraph}
use Rattle.task_graph.specs.Nodes.{ids_of}
use Rattle.task_graph.specs.Plans.{IsPlan}
use Rattle.task_graph.specs.Persistent.{is_persistent}
use Rattle.listing.specs.declared.part.Listing.{Listing}
use Rattle.collect.specs.declared.error.CollectErr.{CollectErr}
use Rattle.collect.specs.declared.wanted.Wanted.{Wanted}
use Rattle.repository.specs.Reading.{Contents}
use Rattle.refusals.specs.declared.stop.Stop.{Stop}
use Rattle.refusals.specs.declared.stop.Stop.TheVariants.{Refused, Failed, OutOfMemory}
use Rattle.planner.specs.Plans.{Answer, AfterFilters, AfterFiltersOf, AfterGraph, AfterGraphOf, AfterOrder, AfterPersistent, AfterCollect, AfterCollectOf}
use Rattle.planner.specs.Steps.{Ends, NoMore, Before}
use Rattle.planner.specs.Wanted.{asks_all}

-- ---- what the one says the other says

pub ends_more : (P Q : Answer → Type 0) → ((answer : Answer) → P answer → Q answer) → (e : Stop) → Ends P e → Ends Q e
ends_more P Q more (Refused reason) says = more (Err reason) says
ends_more P Q more Failed says = absurd says
ends_more P Q more OutOfMemory says = tt

-- ---- step by step

module _ (packages : List Package) (words : List (List ℕ)) where
  pub filters_through : (f g : List ℕ → Answer → Type 0) → ((selected : List ℕ) (answer : Answer) → f selected answer → g selected answer) → (answer : Answer) → AfterFilters packages words f answer → AfterFilters packages words g answer
  filters_through f g more answer = by (words_fault packages words) where
    by : (o : Option FilterErr) → AfterFiltersOf o packages words f answer → AfterFiltersOf o packages words g answer
    by (Some fault) says = says
    by None says = (says.0, says.1, more says.0 answer says.2)

  pub filters_next : (next : List ℕ → Answer → Type 0) (selected : List ℕ) → words_fault packages words ≡ None → AreSelectedBy packages words selected → (answer : Answer) → next selected answer → AfterFilters packages words next answer
  filters_next next selected whole are answer later = subst (λ (o : Option FilterErr). AfterFiltersOf o packages words next answer) (sym whole) (selected, are, later)

module _ (space : Space) (setup : Setup) (selected : List ℕ) (all : Bool) (words : List (List ℕ)) where
  pub graph_through : (f g : List Node → Answer → Type 0) → ((nodes : List Node) (answer : Answer) → f nodes answer → g nodes answer) → (answer : Answer) → AfterGraph space setup selected all words f answer → AfterGraph space setup selected all words g answer
  graph_through f g more answer says = (says.0, says.1, by says.0 says.2) where
    by : (graph : Result (List Node) GraphErr) → AfterGraphOf graph f answer → AfterGraphOf graph g answer
    by (Ok nodes) later = more nodes answer later
    by (Err fault) later = later

  pub graph_next : (next : List Node → Answer → Type 0) (nodes : List Node) → MeansGraph space setup selected all words (Ok nodes) → (answer : Answer) → next nodes answer → AfterGraph space setup selected all words next answer
  graph_next next nodes means answer later = (Ok nodes, means, later)

module _ (nodes : List Node) where
  pub order_through : (f g : PlanList → Answer → Type 0) → ((list : PlanList) (answer : Answer) → f list answer → g list answer) → (answer : Answer) → AfterOrder nodes f answer → AfterOrder nodes g answer
  order_through f g more answer (inl planned) = inl (planned.0, planned.1, more planned.0 answer planned.2)
  order_through f g more answer (inr cycle) = inr cycle

  pub order_next : (next : PlanList → Answer → Type 0) (list : PlanList) → IsPlan nodes list → (answer : Answer) → next list answer → AfterOrder nodes next answer
  order_next next list planned answer later = inl (list, planned, later)

pub persistent_through : (found : Option TaskId) (f g : Answer → Type 0) → ((answer : Answer) → f answer → g answer) → (answer : Answer) → AfterPersistent found f answer → AfterPersistent found g answer
persistent_through None f g more answer says = more answer says
persistent_through (Some task) f g more answer says = says

pub persistent_next : (found : Option TaskId) (rest : Answer → Type 0) → found ≡ None → (answer : Answer) → rest answer → AfterPersistent found rest answer
persistent_next found rest none answer later = subst (λ (o : Option TaskId). AfterPersistent o rest answer) (sym none) later

pub collect_more : (contents : Contents) (files : FileMap) (env : List (List ℕ × List ℕ)) (wanted : List Wanted) (next : Listing → Answer → Type 0) (answer : Answer) → AfterCollect contents files env wanted NoMore answer → AfterCollect contents files env wanted next answer
collect_more contents files env wanted next answer says = (says.0, says.1, by says.0 says.2) where
  by : (collected : Result Listing CollectErr) → AfterCollectOf collected NoMore answer → AfterCollectOf collected next answer
  by (Ok listing) more = absurd more
  by (Err fault) more = more

nothing : {X : Type 0} (next : X → Answer → Type 0) (x : X) (answer : Answer) → NoMore x answer → next x answer
nothing next x answer never = absurd never

-- ---- the steps before a file is read

module _ (contents : Contents) (order : RunOrder) (next : List ℕ → PlanList → Answer → Type 0) where
  abbrev AtPersistent : List ℕ → List Node → PlanList → Answer → Type 0
  AtPersistent selected nodes list answer = AfterPersistent (find (is_persistent contents.space contents.setup) (ids_of nodes)) (next selected list) answer

  abbrev AtOrder : List ℕ → List Node → Answer → Type 0
  AtOrder selected nodes answer = AfterOrder nodes (AtPersistent selected nodes) answer

  abbrev AtGraph : List ℕ → Answer → Type 0
  AtGraph selected answer = AfterGraph contents.space contents.setup selected (asks_all order.filters) order.tasks (AtOrder selected) answer

  pub before_filters : (e : Stop) → Ends (AfterFilters contents.space.packages order.filters NoMore) e → Ends (Before contents order next) e
  before_filters = ends_more (AfterFilters contents.space.packages order.filters NoMore) (Before contents order next) (filters_through contents.space.packages order.filters NoMore AtGraph (nothing AtGraph))

  module _ (selected : List ℕ) (whole : words_fault contents.space.packages order.filters ≡ None) (are : AreSelectedBy contents.space.packages order.filters selected) where
    after_selected : (answer : Answer) → AtGraph selected answer → Before contents order next answer
    after_selected = filters_next contents.space.packages order.filters AtGraph selected whole are

    pub before_graph : (e : Stop) → Ends (AfterGraph contents.space contents.setup selected (asks_all order.filters) order.tasks NoMore) e → Ends (Before contents order next) e
    before_graph = ends_more (AfterGraph contents.space contents.setup selected (asks_all order.filters) order.tasks NoMore) (Before contents order next)
        (λ answer says. after_selected answer (graph_through contents.space contents.setup selected (asks_all order.filters) order.tasks NoMore (AtOrder selected) (nothing (AtOrder selected)) answer says))

    module _ (nodes : List Node) (means : MeansGraph contents.space contents.setup selected (asks_all order.filters) order.tasks (Ok nodes)) where
      after_graph : (answer : Answer) → AtOrder selected nodes answer → Before contents order next answer
      after_graph answer says = after_selected answer (graph_next contents.space contents.setup selected (asks_all order.filters) order.tasks (AtOrder selected) nodes means answer says)

      pub before_order : (e : Stop) → Ends (AfterOrder nodes NoMore) e → Ends (Before contents order next) e
      before_order = ends_more (AfterOrder nodes NoMore) (Before contents order next) (λ answer says. after_graph answer (order_through nodes NoMore (AtPersistent selected nodes) (nothing (AtPersistent selected nodes)) answer says))

      module _ (list : PlanList) (planned : IsPlan nodes list) where
        after_order : (answer : Answer) → AtPersistent selected nodes list answer → Before contents order next answer
        after_order answer says = after_graph answer (order_next nodes (AtPersistent selected nodes) list planned answer says)

        pub before_ends : (e : Stop) → Ends (AfterPersistent (find (is_persistent contents.space contents.setup) (ids_of nodes)) (λ answer. ⊥)) e → Ends (Before contents order next) e
        before_ends = ends_more (AfterPersistent (find (is_persistent contents.space contents.setup) (ids_of nodes)) (λ answer. ⊥)) (Before contents order next)
            (λ answer says. after_order answer (persistent_through (find (is_persistent contents.space contents.setup) (ids_of nodes)) (λ a. ⊥) (next selected list) (λ a never. absurd never) answer says))

        pub after_all : find (is_persistent contents.space contents.setup) (ids_of nodes) ≡ None → (answer : Answer) → next selected list answer → Before contents order next answer
        after_all ends answer later = after_order answer (persistent_next (find (is_persistent contents.space contents.setup) (ids_of nodes)) (next selected list) ends answer later)
