-- The steps of planning, one by one.
use Rattle.std.specs.Prelude.{◌≡◌, ◌≢◌, ℕ, ◌<◌, List, [], Option, Some, None, Result, Ok, Err, MatchResult, AllPairs, find, map, slice_index_or}
use Rattle.std.specs.List.{AllByRecursion}
use Rattle.rel_path.specs.Files.{FileMap}
use Rattle.cli_words.specs.declared.order.RunOrder.{RunOrder}
use Rattle.workspaces.specs.Space.{Space}
use Rattle.task_definitions.specs.Setup.{Setup}
use Rattle.filters.specs.Selection.{AreSelectedBy, words_fault}
use Rattle.task_graph.specs.declared.node.Node.{Node}
use Rattle.task_graph.specs.declared.plan.PlanList.{PlanList}
use Rattle.task_graph.specs.Graphs.{Means as MeansGraph}
use Rattle.task_graph.specs.Nodes.{ids_of}
use Rattle.task_graph.specs.Plans.{IsPlan}
use Rattle.task_graph.specs.Persistent.{is_persistent}
use Rattle.spawn_dev.specs.Orders.{IsAscending}
use Rattle.listing.specs.declared.part.Listing.{Listing}
use Rattle.collect.specs.declared.wanted.Wanted.{Wanted}
use Rattle.collect.specs.declared.error.CollectErr.{CollectErr}
use Rattle.collect.specs.declared.error.CollectErr.TheVariants as collected
use Rattle.collect.specs.Tasks.{IsDefined}
use Rattle.collect.specs.Listings.{IsListing}
use Rattle.collect.specs.Refusals.{Collects}
use Rattle.refusals.specs.declared.refusal.Refusal.{Refusal}
use Rattle.repository.specs.Reading.{Contents}
use Rattle.refusals.specs.declared.stop.Stop.{Stop}
use Rattle.refusals.specs.declared.stop.Stop.TheVariants.{Refused, Failed, OutOfMemory}
use Rattle.planner.specs.declared.preparing.Prepared.{Prepared}
use Rattle.planner.specs.Refusals.{collect_refusal}
use Rattle.planner.specs.Wanted.{asks_all, wanted_of}
use Rattle.planner.specs.Plans.{Answer, entries_of, AfterFilters, AfterGraph, AfterOrder, AfterPersistent, AfterCollect}

-- ---- ends

-- the error for what is refused, or for want of memory
abbrev pub error_of : Option Refusal → Stop
error_of None = OutOfMemory
error_of (Some reason) = Refused reason

abbrev pub collect_error : CollectErr → Stop
collect_error (collected.Missing from name) = error_of (collect_refusal (collected.Missing from name))
collect_error (collected.TooLarge path) = error_of (collect_refusal (collected.TooLarge path))
collect_error (collected.TooMuch bytes) = error_of (collect_refusal (collected.TooMuch bytes))
collect_error collected.Failed = Failed
collect_error collected.OutOfMemory = OutOfMemory

-- planning ended at a step that asks no device: the step says the refusal
abbrev pub Ends : (Answer → Type 0) → Stop → Type 0
Ends Says (Refused reason) = Says (Err reason)
Ends Says Failed = ⊥
Ends Says OutOfMemory = Unit {0}

-- planning ended at a step that asks a device, which may fail
abbrev pub EndsOrFails : (Answer → Type 0) → Stop → Type 0
EndsOrFails Says (Refused reason) = Says (Err reason)
EndsOrFails Says Failed = Unit {0}
EndsOrFails Says OutOfMemory = Unit {0}

-- no later step has a say
abbrev pub NoMore : {X : Type 0} → X → Answer → Type 0
NoMore x answer = ⊥

-- ---- the listing

-- the listing that collecting gives, or the step's refusal
abbrev pub AnswersListing : Contents → FileMap → List (List ℕ × List ℕ) → List Wanted → Result Listing Stop → Type 0
AnswersListing contents files env wanted result = MatchResult result
    (λ listing. Collects contents.setup contents.space contents.lock files contents.walk env wanted (Ok listing))
    (EndsOrFails (AfterCollect contents files env wanted NoMore))

-- the listing of the wanted tasks over some files
abbrev pub IsListed : Contents → List (List ℕ × List ℕ) → List Wanted → Listing → Type 0
IsListed contents env wanted listing =
    (files : FileMap) × IsListing contents.setup contents.space contents.lock files contents.walk env wanted listing

-- ---- what is known before a file is read

-- the steps up to the tasks that do not end
abbrev pub Before : Contents → RunOrder → (List ℕ → PlanList → Answer → Type 0) → Answer → Type 0
Before contents order next answer =
    AfterFilters contents.space.packages order.filters (λ selected.
    AfterGraph contents.space contents.setup selected (asks_all order.filters) order.tasks (λ nodes.
    AfterOrder nodes (λ list.
    AfterPersistent (find (is_persistent contents.space contents.setup) (ids_of nodes)) (
    next selected list)))) answer

-- all steps before the listing have a value: the selected packages, the graph and its plan order, and the wanted tasks
pub record IsPrepared (contents : Contents) (order : RunOrder) (p : Prepared) : Type 0 where
  pub selected : List ℕ
  pub whole : words_fault contents.space.packages order.filters ≡ None
  pub are_selected : AreSelectedBy contents.space.packages order.filters selected
  pub nodes : List Node
  pub means : MeansGraph contents.space contents.setup selected (asks_all order.filters) order.tasks (Ok nodes)
  pub planned : IsPlan nodes p.list
  pub ends : find (is_persistent contents.space contents.setup) (ids_of nodes) ≡ None
  pub wanted_are : p.wanted.items ≡ wanted_of (entries_of contents order selected) order.args p.list

-- the tasks are there and differ, and the places of what each depends on are lower and ascend
pub record AreInOrder (setup : Setup) (space : Space) (wanted : List Wanted) : Type 0 where
  pub tasks : AllByRecursion (λ w. IsDefined setup space w.id) wanted
  pub ids : AllPairs (λ v w. v.id ≢ w.id) wanted
  pub lower : (place : ℕ) → AllByRecursion (λ d. d < place) (slice_index_or (map (λ w. w.deps) wanted) place [])
  pub deps : AllByRecursion (λ w. IsAscending (λ a b. a < b) w.deps) wanted
