-- Tasks that were found, with what they depend on, and those that wait to be looked at.
use Rattle.std.specs.Prelude.{◌≡◌, ◌++◌, List, [], ◌∷◌, Result, Ok, map, if◌then◌else◌}
use Rattle.std.specs.BTreeSet.{insert_key}
use Rattle.turbo_config.specs.declared.task_id.TaskId.{TaskId}
use Rattle.task_definitions.specs.Setup.{Setup}
use Rattle.workspaces.specs.Space.{Space}
use Rattle.task_graph.specs.declared.edges.Row.{Row}
use Rattle.task_graph.specs.Ids.{id_cmp, has}
use Rattle.task_graph.specs.Edges.{row_of, edges}
use Rattle.task_graph.specs.declared.error.GraphErr.{GraphErr}
use Rattle.task_graph.specs.declared.node.Node.{Node}
use Rattle.task_graph.specs.Graphs.{node_by, and_nodes}

-- the tasks, each with its row
abbrev pub AreRowsOf : Space → Setup → List TaskId → List (TaskId × Row) → Type 0
AreRowsOf space config ids rows = rows ≡ map (λ id. (id, row_of space config id)) ids

-- a task was looked at: where it is new it has its place among those found, and what it depends on waits
abbrev pub Visits : Space → Setup → TaskId → List (TaskId × Row) → List TaskId → List (TaskId × Row) → List TaskId → Type 0
Visits space config task old old_waiting new new_waiting =
    (ids : List TaskId) → AreRowsOf space config ids old
    → AreRowsOf space config (if has ids task then ids else insert_key id_cmp ids task) new
    × (new_waiting ≡ (if has ids task then old_waiting else old_waiting ++ edges space config task))

-- the nodes of these, or the refusal of the first that has one
abbrev pub nodes_by : List (TaskId × Row) → Result (List Node) GraphErr
nodes_by [] = Ok []
nodes_by (e ∷ rows) = and_nodes (node_by e.1.refused e.0 e.1.deps) (nodes_by rows)
