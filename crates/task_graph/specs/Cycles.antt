-- Tasks that depend on one another in a circle.
use Rattle.std.specs.Prelude.{◌≡◌, ◌&&◌, Bool, true, false, not, List, [], ◌∷◌, ◌++◌}
use Rattle.std.specs.List.{list_all}
use Rattle.turbo_config.specs.declared.task_id.TaskId.{TaskId}
use Rattle.workspaces.specs.Reach.{IsLeast}
use Rattle.task_graph.specs.declared.node.Node.{Node}
use Rattle.task_graph.specs.declared.error.GraphErr.{GraphErr}
use Rattle.task_graph.specs.declared.error.GraphErr.TheVariants.{NoSuchTask, NoSuchDependency, Cycle, OutOfMemory}
use Rattle.task_graph.specs.Ids.{has}
use Rattle.task_graph.specs.Nodes.{is_in_graph, deps_of}
use Rattle.task_graph.specs.Plans.{IsFirst}

-- with all that a task depends on, the task is in the set
abbrev pub TakesAway : List Node → (TaskId → Bool) → Type 0
TakesAway nodes set = (id : TaskId) → is_in_graph nodes id ≡ true → list_all set (deps_of nodes id) ≡ true → set id ≡ true

-- what can be taken away, task by task, once all that it depends on has been
abbrev pub AreTaken : List Node → (TaskId → Bool) → Type 0
AreTaken nodes taken = IsLeast (TakesAway nodes) taken

unfoldable pub is_left : List Node → (TaskId → Bool) → TaskId → Bool
is_left nodes taken id = is_in_graph nodes id && not (taken id)

-- the least task left among those that a task depends on
abbrev pub Steps : List Node → (TaskId → Bool) → TaskId → TaskId → Type 0
Steps nodes taken from to = IsFirst (λ id. has (deps_of nodes from) id && is_left nodes taken id) to

abbrev pub Chain : {X : Type 0} → (X → X → Type 0) → X → List X → Type 0
Chain step from [] = Unit {0}
Chain step from (x ∷ xs) = step from x × Chain step x xs

-- a way that begins so, and goes on by these steps
abbrev pub IsWay : {X : Type 0} → (X → Type 0) → (X → X → Type 0) → List X → Type 0
IsWay begins step [] = Unit {0}
IsWay begins step (x ∷ xs) = begins x × Chain step x xs

abbrev pub AreApart : List TaskId → Type 0
AreApart [] = Unit {0}
AreApart (id ∷ ids) = (has ids id ≡ false) × AreApart ids

-- the way from the least task left, from each to the least left that it depends on, until one comes again: the tasks from that one on
pub record IsCycle (nodes : List Node) (cycle : List TaskId) : Type 0 where
  pub taken : TaskId → Bool
  pub are_taken : AreTaken nodes taken
  pub front : List TaskId
  pub first : TaskId
  pub rest : List TaskId
  pub is : cycle ≡ first ∷ rest
  pub way : IsWay (IsFirst (is_left nodes taken)) (Steps nodes taken) (front ++ first ∷ rest ++ first ∷ [])
  pub apart : AreApart (front ++ first ∷ rest)

-- why a graph has no plan: a cycle; want of memory may come at any time
abbrev pub IsNoPlan : List Node → GraphErr → Type 0
IsNoPlan nodes (NoSuchTask name) = ⊥
IsNoPlan nodes (NoSuchDependency task text) = ⊥
IsNoPlan nodes (Cycle tasks) = IsCycle nodes tasks
IsNoPlan nodes OutOfMemory = Unit {0}
