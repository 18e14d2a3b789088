-- A task graph by numbers: the row of each task lists what it depends on.
use Rattle.std.specs.Prelude.{ℕ, zero, suc, ◌≡◌, ◌<◌, ◌^◌, List, [], ◌∷◌, length, map}
use Rattle.std.specs.List.{AllByRecursion}
use Rattle.std.specs.List.Sorted.{IsStrictlySortedBy}
use Rattle.std.specs.Ordering.{nat_cmp}
use Rattle.turbo_config.specs.declared.task_id.TaskId.{TaskId}
use Rattle.workspaces.specs.Reach.{row_at, AreRowsBelow}
use Rattle.task_graph.specs.declared.node.Node.{Node}
use Rattle.task_graph.specs.Ids.{task_id}

-- the task of that number
abbrev pub id_at : List Node → ℕ → TaskId
id_at [] n = task_id [] []
id_at (node ∷ nodes) zero = node.id
id_at (node ∷ nodes) (suc n) = id_at nodes n

abbrev pub deps_at : List Node → ℕ → List TaskId
deps_at [] n = []
deps_at (node ∷ nodes) zero = node.deps
deps_at (node ∷ nodes) (suc n) = deps_at nodes n

-- rows of numbers of tasks, ascending
pub record AreRows (rows : List (List ℕ)) : Type 0 where
  pub few : length rows < 2 ^ 32
  pub below : AreRowsBelow (length rows) rows
  pub ascend : AllByRecursion (IsStrictlySortedBy nat_cmp) rows

-- the numbers of what each node depends on
pub record IsNumbered (nodes : List Node) (rows : List (List ℕ)) : Type 0 where
  pub same : length rows ≡ length nodes
  pub deps : (n : ℕ) → deps_at nodes n ≡ map (id_at nodes) (row_at rows n)
