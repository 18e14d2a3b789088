-- Tasks and paths as they are printed (Turborepo docs, "Package and Task Graphs": `package#task`).
use Rattle.std.specs.Prelude.{ℕ, List, [], ◌∷◌, ◌++◌, codes}
use Rattle.std.specs.List.{join_with_byte}
use Rattle.rel_path.specs.Paths.{Path}
use Rattle.turbo_config.specs.declared.task_id.TaskId.{TaskId}

-- the components with a slash between each two; the root folder is the empty text
abbrev pub path_text : Path → List ℕ
path_text path = join_with_byte 47 path

abbrev pub task_name : TaskId → List ℕ
task_name task = task.package ++ (codes "#" ++ task.task)

-- the tasks in their order, with this text between each two
abbrev pub joined : List ℕ → List TaskId → List ℕ
joined between [] = []
joined between (task ∷ []) = task_name task
joined between (task ∷ next ∷ tasks) = task_name task ++ (between ++ joined between (next ∷ tasks))
