-- Tasks that do not end by themselves or want an answer (Turborepo, "persistent", "interactive" and "with").
use Rattle.std.specs.Prelude.{ℕ, ◌&&◌, ◌||◌, Bool, true, false, not, List, [], ◌∷◌, Option, Some, None}
use Rattle.turbo_config.specs.declared.task_id.TaskId.{TaskId}
use Rattle.turbo_config.specs.declared.entry.TaskDef.{TaskDef}
use Rattle.task_definitions.specs.Setup.{Setup, task_def}
use Rattle.workspaces.specs.declared.member.Package.{Package}
use Rattle.workspaces.specs.Edges.{has_name}
use Rattle.workspaces.specs.Space.{Space, owner_named}

abbrev pub script_in : Option Package → List ℕ → Bool
script_in None task = false
script_in (Some member) task = has_name task member.manifest.scripts

-- the manifest of its package, or the root's for a task of the root, has a script of the task's name
abbrev pub has_script : Space → TaskId → Bool
has_script space id = script_in (owner_named space id.«package») id.task

abbrev pub is_empty : List (List ℕ) → Bool
is_empty [] = true
is_empty (text ∷ texts) = false

abbrev pub stays : Option TaskDef → Bool
stays None = false
stays (Some def) = def.persistent || (def.interactive || not (is_empty def.with_tasks))

-- it has a script, and is `persistent`, is `interactive` or has `with`
unfoldable pub is_persistent : Space → Setup → TaskId → Bool
is_persistent space config id = has_script space id && stays (task_def config id.«package» id.task)
