-- What holds of the definitions of tasks, whatever the files of a repository say (Turborepo, "Configuring turbo.json", "tasks").
use Rattle.std.specs.Prelude.{◌≡◌, ℕ, true, List, Some}
use Rattle.turbo_config.specs.declared.entry.TaskDef.{TaskDef}
use Rattle.turbo_config.specs.Names.{is_task_name}
use Rattle.task_definitions.specs.Setup.{Setup, task_def}

-- a task that has a definition has a name that a task may have
abbrev pub DefinitionLaw : Type 0
DefinitionLaw = (setup : Setup) (pkg task : List ℕ) (def : TaskDef) → task_def setup pkg task ≡ Some def → is_task_name task ≡ true
