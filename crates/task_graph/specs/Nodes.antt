-- A task graph as the list of its nodes, ascending by task.
use Rattle.std.specs.Prelude.{Bool, List, [], ◌∷◌, map, if◌then◌else◌}
use Rattle.std.specs.BTreeMap.{is_at}
use Rattle.turbo_config.specs.declared.task_id.TaskId.{TaskId}
use Rattle.task_graph.specs.declared.node.Node.{Node}
use Rattle.task_graph.specs.Ids.{id_cmp, has}

abbrev pub ids_of : List Node → List TaskId
ids_of nodes = map (λ node. node.id) nodes

-- the task is one of the graph
abbrev pub is_in_graph : List Node → TaskId → Bool
is_in_graph nodes id = has (ids_of nodes) id

-- what the task depends on
unfoldable pub deps_of : List Node → TaskId → List TaskId
deps_of [] id = []
deps_of (node ∷ nodes) id = if is_at (id_cmp id) node.id then node.deps else deps_of nodes id
