-- The task graph: the least set of tasks that has those that are named and, with each task, what it depends on.
use Rattle.std.specs.Prelude.{ℕ, ◌≡◌, ◌⊎◌, Bool, true, List, [], ◌∷◌, Option, Some, None, Result, Ok, Err, MatchResult}
use Rattle.std.specs.List.Sorted.{IsStrictlySortedBy}
use Rattle.turbo_config.specs.declared.task_id.TaskId.{TaskId}
use Rattle.task_definitions.specs.Setup.{Setup}
use Rattle.workspaces.specs.Reach.{IsLeast}
use Rattle.workspaces.specs.Space.{Space}
use Rattle.task_graph.specs.declared.error.GraphErr.{GraphErr}
use Rattle.task_graph.specs.declared.error.GraphErr.TheVariants.{NoSuchDependency, OutOfMemory}
use Rattle.task_graph.specs.declared.expansion.Expansion.{Expansion}
use Rattle.task_graph.specs.declared.node.Node.{Node}
use Rattle.task_graph.specs.Ids.{id_cmp, has}
use Rattle.task_graph.specs.Entries.{entry_tasks}
use Rattle.task_graph.specs.Edges.{edges, first_refused}

-- has the tasks to start from, and what each of its tasks depends on
pub record IsClosed (space : Space) (config : Setup) (starts : List TaskId) (set : TaskId → Bool) : Type 0 where
  pub start : (id : TaskId) → has starts id ≡ true → set id ≡ true
  pub edge : (id next : TaskId) → set id ≡ true → has (edges space config id) next ≡ true → set next ≡ true

-- the tasks of the graph, ascending, each once
pub record AreTasks (space : Space) (config : Setup) (starts ids : List TaskId) : Type 0 where
  pub ascend : IsStrictlySortedBy id_cmp ids
  pub least : IsLeast (IsClosed space config starts) (has ids)

abbrev pub node_by : Option (List ℕ) → TaskId → List TaskId → Result Node GraphErr
node_by None id deps = Ok (record { id = id; deps = deps })
node_by (Some text) id deps = Err (NoSuchDependency id text)

-- a task with what it depends on, or the first text that stands for nothing
abbrev pub node_of : Space → Setup → TaskId → Result Node GraphErr
node_of space config id = node_by (first_refused space config id) id (edges space config id)

abbrev pub and_nodes : Result Node GraphErr → Result (List Node) GraphErr → Result (List Node) GraphErr
and_nodes (Err fault) more = Err fault
and_nodes (Ok node) (Err fault) = Err fault
and_nodes (Ok node) (Ok nodes) = Ok (node ∷ nodes)

-- all of them, or the refusal of the first that has one
abbrev pub nodes_of : Space → Setup → List TaskId → Result (List Node) GraphErr
nodes_of space config [] = Ok []
nodes_of space config (id ∷ ids) = and_nodes (node_of space config id) (nodes_of space config ids)

-- the graph from these tasks on
pub record IsGraphFrom (space : Space) (config : Setup) (starts : List TaskId) (answer : Result (List Node) GraphErr) : Type 0 where
  pub ids : List TaskId
  pub are : AreTasks space config starts ids
  pub nodes : nodes_of space config ids ≡ answer

abbrev pub MeansFrom : Space → Setup → Result (List TaskId) GraphErr → Result (List Node) GraphErr → Type 0
MeansFrom space config (Err fault) answer = Err fault ≡ answer
MeansFrom space config (Ok starts) answer = IsGraphFrom space config starts answer

-- the graph of the tasks that the words name, or why there is none
abbrev pub Means : Space → Setup → List ℕ → Bool → List (List ℕ) → Result (List Node) GraphErr → Type 0
Means space config selected all words answer =
    MeansFrom space config (entry_tasks space config selected all words) answer

-- a call answers the tasks that the words name with the graph from them, or why there is none; want of memory may come at any time
abbrev pub Expands : Space → Setup → List ℕ → Bool → List (List ℕ) → Result Expansion GraphErr → Type 0
Expands space config selected all words result = MatchResult result
    (λ x. (entry_tasks space config selected all words ≡ Ok x.entries.items) × Means space config selected all words (Ok x.graph))
    (λ e. (e ≡ OutOfMemory) ⊎ Means space config selected all words (Err e))
