-- The plan of a run, by the words of the command line, the environment and the repository (Turborepo docs, "run", "Filtering packages" and "Package and
-- Task Graphs"). What is tried comes in this order: filters, the tasks that are named, what these depend on, cycles, tasks that do not end, and what
-- collecting the listing answers.
use Rattle.std.specs.Prelude.{◌≡◌, ◌⊎◌, ℕ, Bool, List, Option, Some, None, Result, Ok, Err, find, length, slice_get}
use Rattle.std.specs.Option.{option_map}
use Rattle.rel_path.specs.Files.{FileMap}
use Rattle.env_select.specs.Choice.{IsChosen, is_given}
use Rattle.cli_words.specs.declared.order.RunOrder.{RunOrder}
use Rattle.workspaces.specs.declared.member.Package.{Package}
use Rattle.workspaces.specs.Space.{Space}
use Rattle.turbo_config.specs.declared.entry.TaskDef.{TaskDef}
use Rattle.turbo_config.specs.declared.task_id.TaskId.{TaskId}
use Rattle.task_definitions.specs.Setup.{Setup, task_def}
use Rattle.filters.specs.declared.error.FilterErr.{FilterErr}
use Rattle.filters.specs.Selection.{AreSelectedBy, words_fault}
use Rattle.task_graph.specs.declared.error.GraphErr.{GraphErr}
use Rattle.task_graph.specs.declared.node.Node.{Node}
use Rattle.task_graph.specs.declared.plan.PlanList.{PlanList}
use Rattle.task_graph.specs.Entries.{entry_tasks}
use Rattle.task_graph.specs.Graphs.{Means as MeansGraph}
use Rattle.task_graph.specs.Nodes.{ids_of}
use Rattle.task_graph.specs.Plans.{IsPlan}
use Rattle.task_graph.specs.Cycles.{IsCycle}
use Rattle.task_graph.specs.Persistent.{is_persistent}
use Rattle.listing.specs.declared.part.Listing.{Listing}
use Rattle.collect.specs.declared.error.CollectErr.{CollectErr}
use Rattle.collect.specs.declared.wanted.Wanted.{Wanted}
use Rattle.collect.specs.Listings.{ArePaired}
use Rattle.collect.specs.Refusals.{Collects}
use Rattle.rel_path.specs.Limits.{file_limit}
use Rattle.refusals.specs.declared.refusal.Refusal.{Refusal}
use Rattle.refusals.specs.declared.refusal.Refusal.TheVariants as refusal
use Rattle.run_laws.specs.Ancestors.{part_at}
use Rattle.run_plan.specs.declared.plan.Plan.{Plan}
use Rattle.run_plan.specs.Plans.{given_at}
use Rattle.repository.specs.Steps.{IsRefusal}
use Rattle.repository.specs.Reading.{Contents}
use Rattle.planner.specs.Refusals.{filter_refusal, graph_refusal, collect_refusal}
use Rattle.planner.specs.Wanted.{asks_all, named, wanted_of}
use Rattle.planner.specs.Settings.{mode_of, log_mode_of, env_mode_for}

-- what is answered: a plan or a refusal
abbrev pub Answer : Type 0
Answer = Result Plan Refusal

-- ---- the steps

abbrev pub AfterFiltersOf : Option FilterErr → List Package → List (List ℕ) → (List ℕ → Answer → Type 0) → Answer → Type 0
AfterFiltersOf (Some fault) packages words next answer = IsRefusal (filter_refusal fault) answer
AfterFiltersOf None packages words next answer = (selected : List ℕ) × AreSelectedBy packages words selected × next selected answer

-- the packages that the words of `--filter` select
abbrev pub AfterFilters : List Package → List (List ℕ) → (List ℕ → Answer → Type 0) → Answer → Type 0
AfterFilters packages words next answer = AfterFiltersOf (words_fault packages words) packages words next answer

abbrev pub AfterGraphOf : Result (List Node) GraphErr → (List Node → Answer → Type 0) → Answer → Type 0
AfterGraphOf (Ok nodes) next answer = next nodes answer
AfterGraphOf (Err fault) next answer = IsRefusal (graph_refusal fault) answer

-- the task graph of the tasks that are named
abbrev pub AfterGraph : Space → Setup → List ℕ → Bool → List (List ℕ) → (List Node → Answer → Type 0) → Answer → Type 0
AfterGraph space setup selected all words next answer =
    (graph : Result (List Node) GraphErr) × MeansGraph space setup selected all words graph × AfterGraphOf graph next answer

-- its plan order, or its cycle
abbrev pub AfterOrder : List Node → (PlanList → Answer → Type 0) → Answer → Type 0
AfterOrder nodes next answer = ((list : PlanList) × IsPlan nodes list × next list answer) ⊎ ((tasks : List TaskId) × IsCycle nodes tasks × (answer ≡ Err (refusal.Cycle tasks)))

-- a task that does not end by itself
abbrev pub AfterPersistent : Option TaskId → (Answer → Type 0) → Answer → Type 0
AfterPersistent None rest answer = rest answer
AfterPersistent (Some task) rest answer = answer ≡ Err (refusal.Persistent task)

abbrev pub AfterCollectOf : Result Listing CollectErr → (Listing → Answer → Type 0) → Answer → Type 0
AfterCollectOf (Ok listing) next answer = next listing answer
AfterCollectOf (Err fault) next answer = IsRefusal (collect_refusal fault) answer

-- the listing of the planned tasks
abbrev pub AfterCollect : Contents → FileMap → List (List ℕ × List ℕ) → List Wanted → (Listing → Answer → Type 0) → Answer → Type 0
AfterCollect contents files env wanted next answer =
    (collected : Result Listing CollectErr) × Collects contents.setup contents.space contents.lock files contents.walk env wanted collected × AfterCollectOf collected next answer

-- ---- the plan

-- The planned tasks with their definitions, the listing, and for each task the variables that are passed on beside those that count; the rest is as the options say.
pub record IsPlanOf (setup : Setup) (order : RunOrder) (env : List (List ℕ × List ℕ)) (list : PlanList) (listing : Listing) (plan : Plan) : Type 0 where
  pub ids : plan.ids ≡ list.ids
  pub defs : ArePaired (λ id def. task_def setup id.«package» id.task ≡ Some def) list.ids plan.defs
  pub listing_is : plan.listing ≡ listing
  pub passed : length plan.given ≡ length list.ids
  pub given : (t : ℕ) (def : TaskDef) → slice_get plan.defs t ≡ Some def
      → IsChosen (is_given (env_mode_for order.env_word setup.globals.env_mode) def.pass setup.globals.pass (part_at listing t).env) env (given_at plan t)
  pub width : plan.width ≡ order.width
  pub mode : plan.mode ≡ mode_of order.keep_on
  pub force : plan.force ≡ order.force
  pub logs : plan.logs ≡ option_map log_mode_of order.logs
  pub limit : plan.limit ≡ file_limit

-- the tasks that the order names, in the selected packages and, where nothing is filtered, in the root
abbrev pub entries_of : Contents → RunOrder → List ℕ → List TaskId
entries_of contents order selected =
    named (entry_tasks contents.space contents.setup selected (asks_all order.filters) order.tasks)

-- the plan that the order asks for, or the first reason why there is none
abbrev pub Plans : Contents → RunOrder → List (List ℕ × List ℕ) → FileMap → Answer → Type 0
Plans contents order env files answer =
    AfterFilters contents.space.packages order.filters (λ selected.
    AfterGraph contents.space contents.setup selected (asks_all order.filters) order.tasks (λ nodes.
    AfterOrder nodes (λ list.
    AfterPersistent (find (is_persistent contents.space contents.setup) (ids_of nodes)) (
    AfterCollect contents files env (wanted_of (entries_of contents order selected) order.args list) (λ listing end.
    (plan : Plan) × (end ≡ Ok plan) × IsPlanOf contents.setup order env list listing plan))))) answer
