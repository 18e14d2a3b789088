-- The tasks that a listing is wanted of.
use Rattle.std.specs.Prelude.{◌≡◌, Some}
use Rattle.workspaces.specs.declared.member.Package.{Package}
use Rattle.workspaces.specs.Space.{Space, owner_named}
use Rattle.turbo_config.specs.declared.entry.TaskDef.{TaskDef}
use Rattle.turbo_config.specs.declared.task_id.TaskId.{TaskId}
use Rattle.task_definitions.specs.Setup.{Setup, task_def}

-- the task's package is there, or it is the root's, and the task has a definition
pub record IsDefined (setup : Setup) (space : Space) (id : TaskId) : Type 0 where
  pub member : Package
  pub stands : owner_named space id.«package» ≡ Some member
  pub def : TaskDef
  pub defined : task_def setup member.name id.task ≡ Some def
