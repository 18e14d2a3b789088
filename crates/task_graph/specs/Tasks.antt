-- Which tasks there are: those of packages, and of the root, that have a definition of them (Turborepo, "Configuring tasks").
use Rattle.std.specs.Prelude.{ℕ, ◌&&◌, ◌==◌, Bool, List, is_some, map, filter}
use Rattle.std.specs.List.{list_any, before_first, after_first}
use Rattle.turbo_config.specs.declared.task_id.TaskId.{TaskId}
use Rattle.task_definitions.specs.Setup.{Setup, task_def}
use Rattle.workspaces.specs.declared.member.Package.{Package}
use Rattle.workspaces.specs.Space.{Space, owner_named}
use Rattle.workspaces.specs.Steps.{name_at}
use Rattle.task_graph.specs.Ids.{task_id}

-- the task has a definition
abbrev pub has_def : Setup → TaskId → Bool
has_def config id = is_some (task_def config id.«package» id.task)

-- its package is there, or it is one of the root, and it has a definition
abbrev pub is_task : Space → Setup → TaskId → Bool
is_task space config id = is_some (owner_named space id.«package») && has_def config id

-- the task of that name of each of these owners, where it has a definition
abbrev pub tasks_in : List Package → Setup → List ℕ → List ℕ → List TaskId
tasks_in owners config places name = filter (has_def config) (map (λ o. task_id (name_at owners o) name) places)

-- a text `package#task`, cut at its first `#`
abbrev pub is_hash : ℕ → Bool
is_hash b = b == 35

abbrev pub is_full : List ℕ → Bool
is_full text = list_any is_hash text

abbrev pub full_id : List ℕ → TaskId
full_id text = task_id (before_first is_hash text) (after_first is_hash text)
