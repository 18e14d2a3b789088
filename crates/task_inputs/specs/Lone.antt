-- A task's outputs as an output set of their own, as if it were the only task of its owner.
use Rattle.std.specs.Prelude.{◌≡◌, ℕ, not, List, [], Option, map, filter}
use Rattle.std.specs.List.{filter_map, AllByRecursion}
use Rattle.std.specs.Option.{option_map}
use Rattle.rel_path.specs.Paths.{Path, name_eq}
use Rattle.globs.specs.declared.out_set.OutSet.{OutSet}
use Rattle.task_definitions.specs.Setup.{Setup, task_def}
use Rattle.task_inputs.specs.declared.configured.LoneTask.{LoneTask}
use Rattle.task_inputs.specs.Homes.{Configured, Home}

abbrev pub lone : Path → List (List ℕ) → OutSet
lone folder outputs = record { folder = folder; mine = outputs; others = [] }

abbrev pub lone_by : Setup → List ℕ → Path → List ℕ × List ℕ → Option LoneTask
lone_by setup name folder script = option_map (λ def. record { task = script.0; outs = lone folder def.outputs }) (task_def setup name script.0)

-- the configured tasks of an owner of this name in this folder
abbrev pub lone_tasks : Setup → List ℕ → Path → List (List ℕ × List ℕ) → List LoneTask
lone_tasks setup name folder scripts = filter_map (lone_by setup name folder) scripts

abbrev pub as_configured : LoneTask → Configured
as_configured t = record { task = t.task; outputs = t.outs.mine }

abbrev pub as_home : Path → List LoneTask → Home
as_home folder tasks = record { folder = folder; tasks = map as_configured tasks }

-- each set is that of a task in the folder by itself
abbrev pub IsHome : Path → List LoneTask → Type 0
IsHome folder tasks = AllByRecursion (λ t. t.outs ≡ lone folder t.outs.mine) tasks

-- the outputs of the tasks but the one of this name
abbrev pub rest_of : List ℕ → List LoneTask → List (List (List ℕ))
rest_of task tasks = map (λ t. t.outs.mine) (filter (λ t. not (name_eq t.task task)) tasks)
