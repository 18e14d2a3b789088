-- The order in which the tasks of a graph are planned: a topological order in which the least task that can come next always
-- does (Turborepo, "Package and Task Graphs").
use Rattle.std.specs.Prelude.{ℕ, ◌≡◌, ◌<◌, ◌&&◌, Bool, true, false, not, List, [], ◌∷◌, ◌++◌, map, slice_index_or}
use Rattle.std.specs.List.{list_all, AllByRecursion}
use Rattle.std.specs.declared.cmp.Ordering.TheVariants.{Less}
use Rattle.turbo_config.specs.declared.task_id.TaskId.{TaskId}
use Rattle.workspaces.specs.Lists.{places}
use Rattle.task_graph.specs.declared.node.Node.{Node}
use Rattle.task_graph.specs.declared.plan.PlanList.{PlanList}
use Rattle.task_graph.specs.Ids.{id_cmp, has}
use Rattle.task_graph.specs.Nodes.{is_in_graph, deps_of}

-- a task of the graph that is not before, while all that it depends on is
unfoldable pub is_open : List Node → List TaskId → TaskId → Bool
is_open nodes before id = is_in_graph nodes id && (not (has before id) && list_all (has before) (deps_of nodes id))

-- the least that passes
pub record IsFirst (test : TaskId → Bool) (id : TaskId) : Type 0 where
  pub passes : test id ≡ true
  pub least : (other : TaskId) → id_cmp other id ≡ Less → test other ≡ false

-- each is the least task that can come next
abbrev pub Follow : List Node → List TaskId → List TaskId → Type 0
Follow nodes before [] = Unit {0}
Follow nodes before (id ∷ ids) = IsFirst (is_open nodes before) id × Follow nodes (before ++ id ∷ []) ids

-- all tasks of the graph in plan order
pub record IsPlanOrder (nodes : List Node) (ids : List TaskId) : Type 0 where
  pub follow : Follow nodes [] ids
  pub whole : (id : TaskId) → is_in_graph nodes id ≡ true → has ids id ≡ true

-- where in the plan that stands on which a task depends
abbrev pub places_of : List Node → List TaskId → TaskId → List ℕ
places_of nodes ids id = places (has (deps_of nodes id)) ids

-- the tasks in plan order, and for each the places of what it depends on, ascending
pub record IsPlan (nodes : List Node) (plan : PlanList) : Type 0 where
  pub order : IsPlanOrder nodes plan.ids
  pub deps : plan.deps ≡ map (places_of nodes plan.ids) plan.ids
  pub lower : (place : ℕ) → AllByRecursion (λ d. d < place) (slice_index_or plan.deps place [])
