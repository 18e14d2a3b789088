-- What the definitions settle: words have one graph, a graph one plan order, and a graph with a cycle none; which tasks a graph and a plan of it have.
use Rattle.std.specs.Prelude.{ℕ, ◌≡◌, ◌≢◌, ◌≤◌, Bool, true, List, length, Result, Ok}
use Rattle.std.specs.List.{AllByRecursion, AllPairs}
use Rattle.std.specs.List.Sorted.{IsStrictlySortedBy}
use Rattle.std.specs.Ordering.{nat_cmp}
use Rattle.task_definitions.specs.Setup.{Setup}
use Rattle.turbo_config.specs.declared.task_id.TaskId.{TaskId}
use Rattle.workspaces.specs.Reach.{AreBelow}
use Rattle.workspaces.specs.Space.{Space}
use Rattle.task_graph.specs.declared.error.GraphErr.{GraphErr}
use Rattle.task_graph.specs.declared.node.Node.{Node}
use Rattle.task_graph.specs.declared.plan.PlanList.{PlanList}
use Rattle.task_graph.specs.Tasks.{is_task}
use Rattle.task_graph.specs.Graphs.{Means}
use Rattle.task_graph.specs.Plans.{IsPlanOrder, IsPlan}
use Rattle.task_graph.specs.Cycles.{IsCycle}

pub record GraphLaw : Type 0 where
  pub graph : (space : Space) (config : Setup) (selected : List ℕ) (all : Bool) (words : List (List ℕ)) (one other : Result (List Node) GraphErr)
      → Means space config selected all words one → Means space config selected all words other → one ≡ other
  pub order : (nodes : List Node) (one other : List TaskId) → IsPlanOrder nodes one → IsPlanOrder nodes other → one ≡ other
  pub cycle : (nodes : List Node) (ids cycle : List TaskId) → IsPlanOrder nodes ids → IsCycle nodes cycle → ⊥

-- the tasks of a graph that words name are ones that the repository has
abbrev pub TasksLaw : Type 0
TasksLaw = (space : Space) (config : Setup) (selected : List ℕ) (all : Bool) (words : List (List ℕ)) (nodes : List Node)
    → AreBelow (length space.packages) selected
    → Means space config selected all words (Ok nodes) → AllByRecursion (λ node. is_task space config node.id ≡ true) nodes

-- planned tasks differ, and what each task of the graph passes each of them passes; each has its row of places, which ascend
pub record PlanLaw : Type 0 where
  pub apart : (nodes : List Node) (plan : PlanList) → IsPlan nodes plan → AllPairs (λ a b. a ≢ b) plan.ids
  pub inner : (nodes : List Node) (plan : PlanList) → IsPlan nodes plan → (test : TaskId → Bool) → AllByRecursion (λ node. test node.id ≡ true) nodes → AllByRecursion (λ id. test id ≡ true) plan.ids
  pub few : (nodes : List Node) (plan : PlanList) → IsPlan nodes plan → length plan.ids ≤ length nodes
  pub same : (nodes : List Node) (plan : PlanList) → IsPlan nodes plan → length plan.deps ≡ length plan.ids
  pub ascend : (nodes : List Node) (plan : PlanList) → IsPlan nodes plan → AllByRecursion (IsStrictlySortedBy nat_cmp) plan.deps
