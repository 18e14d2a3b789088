-- The tasks whose parts a run wants (Turborepo docs, "run": words behind `--` go to the scripts of the tasks that are named).
use Rattle.std.specs.Prelude.{ℕ, Bool, true, false, List, [], ◌∷◌, Result, Ok, Err, map, zip, if◌then◌else◌}
use Rattle.turbo_config.specs.declared.task_id.TaskId.{TaskId}
use Rattle.task_graph.specs.declared.error.GraphErr.{GraphErr}
use Rattle.task_graph.specs.declared.plan.PlanList.{PlanList}
use Rattle.task_graph.specs.Ids.{has}
use Rattle.collect.specs.declared.wanted.Wanted.{Wanted}

-- no word of `--filter` stands, and so the root is asked for as each package is
abbrev pub asks_all : List (List ℕ) → Bool
asks_all [] = true
asks_all (word ∷ words) = false

-- the tasks that words name, and none where a word names nothing
abbrev pub named : Result (List TaskId) GraphErr → List TaskId
named (Ok ids) = ids
named (Err fault) = []

-- the words behind `--`, for a task that is named
abbrev pub args_for : List TaskId → List (List ℕ) → TaskId → List (List ℕ)
args_for entries args id = if has entries id then args else []

abbrev pub wanted_at : List TaskId → List (List ℕ) → TaskId → List ℕ → Wanted
wanted_at entries args id deps = record { id = id; args = args_for entries args id; deps = deps }

-- each planned task with its words and the places of what it depends on
abbrev pub wanted_of : List TaskId → List (List ℕ) → PlanList → List Wanted
wanted_of entries args list = map (λ pair. wanted_at entries args pair.0 pair.1) (zip list.ids list.deps)
