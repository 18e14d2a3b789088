-- The files that tasks of some owners get from anywhere.
use Rattle.std.specs.Prelude.{◌≡◌, ◌&&◌, ◌||◌, ℕ, Bool, true, false, not, List, [], ◌∷◌, filter, Option, Some, None}
use Rattle.std.specs.List.{slice_get, list_any}
use Rattle.rel_path.specs.Paths.{Path}
use Rattle.globs.specs.Lists.{list_takes}
use Rattle.workspaces.specs.Lists.{Has}
use Rattle.workspaces.specs.declared.member.Package.{Package}
use Rattle.turbo_config.specs.declared.entry.TaskDef.{TaskDef}
use Rattle.task_definitions.specs.Setup.{Setup, task_def, is_name}
use Rattle.input_entries.specs.declared.entries.InputList.{InputList}
use Rattle.task_inputs.specs.declared.tasks.TaskGlobs.{TaskGlobs}
use Rattle.task_inputs.specs.Homes.{Home}
use Rattle.input_entries.specs.Entries.{any_wide, any_reaches, rest_where}
use Rattle.task_inputs.specs.Inputs.{is_far_input}
use Rattle.task_inputs.specs.Facts.{IsRead, home_place, is_at, may_count_in}

-- the file is an input of some task with a definition of one of these owners, through a glob of the root or a global one
pub record IsRooted (setup : Setup) (owners : List Package) (kept : List ℕ) (path : Path) : Type 0 where
  pub place : ℕ
  pub is_kept : Has kept place
  pub member : Package
  pub stands : slice_get owners place ≡ Some member
  pub task : List ℕ
  pub named : is_name setup task ≡ true
  pub def : TaskDef
  pub defined : task_def setup member.name task ≡ Some def
  pub far : is_far_input setup owners member def path ≡ true

-- these are the files that are so, in their order
pub record ArePicked (P : Path → Type 0) (files picked : List Path) : Type 0 where
  pub test : Path → Bool
  pub sound : (path : Path) → test path ≡ true → P path
  pub whole : (path : Path) → P path → test path ≡ true
  pub are : picked ≡ filter test files

-- ---- of tasks that were read

-- what a task of the owner in this place was read as
abbrev pub ReadsAs : List Package → ℕ → Option TaskDef → Option TaskGlobs → Type 0
ReadsAs owners place None None = Unit {0}
ReadsAs owners place None (Some task) = ⊥
ReadsAs owners place (Some def) None = ⊥
ReadsAs owners place (Some def) (Some task) = IsRead owners (record { owner = place; def = def }) task

pub record Reads (setup : Setup) (owners : List Package) (place : ℕ) (name : List ℕ) (found : Option TaskGlobs) : Type 0 where
  pub member : Package
  pub stands : slice_get owners place ≡ Some member
  pub read : ReadsAs owners place (task_def setup member.name name) found

-- a task of this name with a definition
pub record IsTaskOf (setup : Setup) (owners : List Package) (place : ℕ) (name : List ℕ) (task : TaskGlobs) : Type 0 where
  pub member : Package
  pub stands : slice_get owners place ≡ Some member
  pub def : TaskDef
  pub defined : task_def setup member.name name ≡ Some def
  pub read : IsRead owners (record { owner = place; def = def }) task

-- exactly the tasks of these names with a definition of one owner
pub record AreTasksOf (setup : Setup) (owners : List Package) (place : ℕ) (names : List (List ℕ)) (tasks : List TaskGlobs) : Type 0 where
  pub sound : (task : TaskGlobs) → Has tasks task → (name : List ℕ) × (Has names name) × IsTaskOf setup owners place name task
  pub whole : (name : List ℕ) (member : Package) (def : TaskDef) → Has names name → slice_get owners place ≡ Some member → task_def setup member.name name ≡ Some def → (task : TaskGlobs) × (Has tasks task) × IsRead owners (record { owner = place; def = def }) task

-- the same of several owners
pub record AreTasks (setup : Setup) (owners : List Package) (kept : List ℕ) (names : List (List ℕ)) (tasks : List TaskGlobs) : Type 0 where
  pub sound : (task : TaskGlobs) → Has tasks task → (place : ℕ) × (Has kept place) × (name : List ℕ) × (Has names name) × IsTaskOf setup owners place name task
  pub whole : (place : ℕ) (name : List ℕ) (member : Package) (def : TaskDef) → Has kept place → Has names name → slice_get owners place ≡ Some member → task_def setup member.name name ≡ Some def → (task : TaskGlobs) × (Has tasks task) × IsRead owners (record { owner = place; def = def }) task

-- there is one
abbrev pub are_some : List TaskGlobs → Bool
are_some [] = false
are_some (task ∷ tasks) = true

-- it asks for the path through a glob of the root
abbrev pub far_list : Option InputList → Path → Option Path → Bool
far_list None path rest = false
far_list (Some list) path rest = any_wide list.globs.items path && not (any_reaches true list.globs.items path rest)

-- the task does so, where the path has this home
abbrev pub far_by : Option ℕ → TaskGlobs → Path → Bool
far_by home task path = far_list task.inputs path (rest_where (is_at home task.place) task.folder path)

unfoldable pub far_test : List Home → List (List ℕ) → Bool → List TaskGlobs → Path → Bool
far_test homes globals any wide path = may_count_in homes path && ((any && list_takes globals path) || list_any (λ t. far_by (home_place homes path) t path) wide)
