-- The walked files with what is known of them, and the places at which a task looks.
use Rattle.std.specs.Prelude.{◌≡◌, ◌+◌, ◌<◌, ◌^◌, ℕ, Bool, false, List, [], length, map, filter, slice_index_or, None}
use Rattle.std.specs.List.{AllByRecursion}
use Rattle.rel_path.specs.Paths.{Path}
use Rattle.workspaces.specs.declared.member.Package.{Package}
use Rattle.workspaces.specs.Lists.{places}
use Rattle.task_inputs.specs.declared.definitions.DefinedTask.{DefinedTask}
use Rattle.task_inputs.specs.declared.files.FileFacts.{FileFacts}
use Rattle.task_inputs.specs.declared.table.Table.{Table}
use Rattle.task_inputs.specs.declared.tasks.TaskGlobs.{TaskGlobs}
use Rattle.task_inputs.specs.Homes.{Home}
use Rattle.task_inputs.specs.Facts.{fact_by, takes_by, merged, AreNear, IsRead}
use Rattle.task_inputs.specs.WideLists.{wide_by}

-- nothing is known
abbrev pub unknown : FileFacts
unknown = record { home = None; may_count = false; ignored = false; global = false }

-- the task takes the file at the place
abbrev pub takes_at : TaskGlobs → List FileFacts → List Path → ℕ → Bool
takes_at task files walk place = takes_by task (slice_index_or files place unknown) (slice_index_or walk place [])

pub record IsTable (ignored : Path → Bool) (homes : List Home) (taken : List (List ℕ)) (walk : List Path) (table : Table) : Type 0 where
  pub files : table.files.items ≡ map (fact_by ignored homes taken) walk
  pub count : length table.near.items ≡ length homes
  pub near : AreNear table.files.items table.near.items
  pub globals : table.globals.items ≡ places (λ f. f.global) table.files.items
  pub few : length table.files.items < 2 ^ 32

-- the places near a home and of global files, each once
abbrev pub close : Table → ℕ → List ℕ
close table home = merged (length (slice_index_or table.near.items home []) + length table.globals.items) (slice_index_or table.near.items home []) table.globals.items

-- where a task of the home looks: there, and at these places, which the globs of the root in its list match
abbrev pub looked : Table → ℕ → List ℕ → List ℕ
looked table home wide = merged (length (close table home) + length wide) (close table home) wide

-- the places near the home and of global files are those of walked files
pub record IsLooked (walk : List Path) (place : ℕ) (table : Table) : Type 0 where
  pub same : length table.files.items ≡ length walk
  pub few : length table.files.items < 2 ^ 32
  pub stands : place < length table.near.items
  pub narrow : AllByRecursion (λ k. k < length walk) (close table place)

-- the places of the files that the task takes, of those at which it looks
pub record IsRowOf (owners : List Package) (walk : List Path) (table : Table) (t : DefinedTask) (row : List ℕ) : Type 0 where
  pub task : TaskGlobs
  pub read : IsRead owners t task
  pub taken : row ≡ filter (takes_at task table.files.items walk) (looked table task.place (places (wide_by task.inputs) walk))
