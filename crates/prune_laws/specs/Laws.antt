-- What stays of the tasks of a pruned repository: what each depends on, and so its key and what becomes of it.
use Rattle.std.specs.Prelude.{◌≡◌, ℕ, true, false, List, Some, Ok, is_some}
use Rattle.std.specs.List.{slice_get}
use Rattle.rel_path.specs.Files.{FileMap}
use Rattle.cli_words.specs.declared.order.RunOrder.{RunOrder}
use Rattle.workspaces.specs.declared.member.Package.{Package}
use Rattle.workspaces.specs.Edges.{text_by}
use Rattle.workspaces.specs.Space.{owners, owner_named}
use Rattle.turbo_config.specs.declared.task_id.TaskId.{TaskId}
use Rattle.turbo_config.specs.declared.entry.TaskDef.{TaskDef}
use Rattle.task_definitions.specs.Setup.{task_def}
use Rattle.task_inputs.specs.Ignores.{is_left_out}
use Rattle.task_inputs.specs.Inputs.{is_input}
use Rattle.run_laws.specs.Ancestors.{part_at}
use Rattle.run_core.specs.declared.states.Mode.{Mode}
use Rattle.run_laws.specs.Closures.{closure}
use Rattle.run_laws.specs.Clean.{clean}
use Rattle.run_laws.specs.Effects.{Book}
use Rattle.run_laws.specs.Keys.{key_of}
use Rattle.run_plan.specs.declared.plan.Plan.{Plan}
use Rattle.repository.specs.Reading.{Contents, Means}
use Rattle.planner.specs.Plans.{Plans}
use Rattle.kept_packages.specs.Kept.{Stays}
use Rattle.pruned_files.specs.Pruned.{Pruning, IsPruning, pruned_files, pruned_contents, lock_path}

-- the lockfile, which is cut, is no input of a task of an owner that stays
abbrev pub HasNoLockInput : FileMap → Contents → Pruning → Type 0
HasNoLockInput files contents p = (q : Package) (task : List ℕ) (def : TaskDef)
    → Stays contents p.set q → task_def contents.setup q.name task ≡ Some def
    → is_input (is_left_out contents.setup (owners contents.space) files contents.walk) contents.setup (owners contents.space) q def lock_path ≡ false

-- a task of an owner that stays
pub record IsKeptTask (contents : Contents) (p : Pruning) (id : TaskId) : Type 0 where
  pub member : Package
  pub is : owner_named contents.space id.«package» ≡ Some member
  pub stays : p.set member.folder ≡ true

-- tasks of owners that stay get the same words of the command line
abbrev pub GiveSameWords : Contents → Pruning → Plan → Plan → Type 0
GiveSameWords contents p whole part = (i j : ℕ) (id : TaskId) → IsKeptTask contents p id
    → slice_get whole.ids i ≡ Some id → slice_get part.ids j ≡ Some id
    → (part_at whole.listing i).args ≡ (part_at part.listing j).args

-- A plan of a repository and one of what a pruning leaves of it, for whatever orders and one environment.
pub record ArePruned (files : FileMap) (contents : Contents) (targets : List (List ℕ)) (p : Pruning) (env : List (List ℕ × List ℕ)) (whole part : Plan) : Type 0 where
  pub means : Means files (Ok contents)
  pub pruning : IsPruning contents targets p
  pub no_lock : HasNoLockInput files contents p
  pub order : RunOrder
  pub plans : Plans contents order env files (Ok whole)
  pub other : RunOrder
  pub plans_part : Plans (pruned_contents contents p) other env (pruned_files p files) (Ok part)
  pub words : GiveSameWords contents p whole part

-- the task, of an owner that stays and that has a script of its name, stands in the one plan here and in the other there
pub record StandsInBoth (contents : Contents) (p : Pruning) (whole part : Plan) (i j : ℕ) (id : TaskId) : Type 0 where
  pub kept : IsKeptTask contents p id
  pub scripted : is_some (text_by id.task kept.member.manifest.scripts) ≡ true
  pub here : slice_get whole.ids i ≡ Some id
  pub there : slice_get part.ids j ≡ Some id

-- Such a task has one closure in both: the same tasks with the same inputs, installed packages, variables, outputs and words. Its key and its outcome are made of that alone.
abbrev pub PruneLaw : Type 0
PruneLaw = (files : FileMap) (contents : Contents) (targets : List (List ℕ)) (p : Pruning) (env : List (List ℕ × List ℕ)) (whole part : Plan)
    → ArePruned files contents targets p env whole part
    → (i j : ℕ) (id : TaskId) → StandsInBoth contents p whole part i j id
    → closure whole.listing i ≡ closure part.listing j

-- What becomes of such a task in the run without a cache, whatever commands do, is the same in both, and so is its key text.
abbrev pub OutcomeLaw : Type 0
OutcomeLaw = (files : FileMap) (contents : Contents) (targets : List (List ℕ)) (p : Pruning) (env : List (List ℕ × List ℕ)) (whole part : Plan)
    → ArePruned files contents targets p env whole part
    → (i j : ℕ) (id : TaskId) → StandsInBoth contents p whole part i j id
    → ((mode : Mode) (book : Book) → slice_get (clean mode book whole.listing) i ≡ slice_get (clean mode book part.listing) j) × (key_of whole.listing i ≡ key_of part.listing j)
