-- The files while a run goes on, and what it leaves.
use Rattle.std.specs.Prelude.{◌≡◌, ◌≢◌, ℕ, Bool, true, false, ◌&&◌, ◌||◌, ◌==◌, List, [], ◌∷◌, slice_get, Option, Some, None, if◌then◌else◌}
use Rattle.std.specs.List.{list_any}
use Rattle.rel_path.specs.Paths.{Path, path_eq}
use Rattle.rel_path.specs.Files.{FileMap, file_at}
use Rattle.globs.specs.Outputs.{takes}
use Rattle.listing.specs.declared.part.Part.{Part}
use Rattle.listing.specs.declared.part.Listing.{Listing}
use Rattle.run_core.specs.declared.states.Mode.{Mode}
use Rattle.spawn_dev.specs.declared.effect.Effect.{Effect}
use Rattle.run_laws.specs.declared.outcome.Outcome.{Outcome}
use Rattle.run_laws.specs.declared.outcome.Outcome.TheVariants.{Skipped, Passed, Done}
use Rattle.run_laws.specs.Picks.{pick}
use Rattle.run_laws.specs.Ancestors.{part_at, has_script, is_above}
use Rattle.run_laws.specs.Closures.{names}
use Rattle.run_laws.specs.Effects.{Book}
use Rattle.spawn_dev.specs.Effects.{Seen}
use Rattle.run_laws.specs.Clean.{skips, written, has_external, clean, outcome_in}
use Rattle.run_laws.specs.Plans.{log_path}

-- ---- what a command sees of the files that stand there

-- a task with a script owns the path
abbrev pub owns : Path → Part → Bool
owns path part = has_script part && takes part.outs path

-- the path is an input of the task at place i or of an ancestor
abbrev pub is_read : Listing → ℕ → Path → Bool
is_read l i path = names (part_at l i ∷ pick (is_above l i) l.parts) path

-- an ancestor of the task at place i owns the path
abbrev pub is_made : Listing → ℕ → Path → Bool
is_made l i path = list_any (owns path) (pick (is_above l i) l.parts)

-- what the command at place i sees of these files
unfoldable pub seen_in : Listing → ℕ → FileMap → Seen
seen_in l i world =
    record {
      «package» = (part_at l i).package;
      folder = (part_at l i).folder;
      task = (part_at l i).task;
      scripts = (part_at l i).scripts;
      words = (part_at l i).args;
      env = (part_at l i).env;
      outs = (part_at l i).outs;
      externals = has_external (part_at l i ∷ pick (is_above l i) l.parts);
      files = λ path. if is_made l i path || is_read l i path then world path else None;
    }

-- ---- what a run does to files

-- the log is kept in the task's log file
abbrev pub logged : Part → List ℕ → FileMap → FileMap
logged part log world = λ path. if path_eq path (log_path part) then Some log else world path

-- ---- how far a run is

-- How far a task is, as the files show it: nothing was done for it, its command runs, or it has come to an end
-- with this status (0 also where it was a hit, or where it has no script).
pub data Stage : Type 0 where
  Untouched : Stage
  Running : Stage
  Finished : (status : ℕ) → Stage

abbrev pub Stages : Type 0
Stages = ℕ → Stage

abbrev pub is_finished : Stage → Bool
is_finished Untouched = false
is_finished Running = false
is_finished (Finished status) = true

-- its owned files are no more those of before the run
abbrev pub is_touched : Stage → Bool
is_touched Untouched = false
is_touched Running = true
is_touched (Finished status) = true

-- the tasks above it may run: it ended with status 0, or the mode is to go on always
abbrev pub is_well : Mode → Stage → Bool
is_well mode Untouched = false
is_well mode Running = false
is_well mode (Finished status) = if skips mode then status == 0 else true

-- the same but for this at one place
abbrev pub put_at : Stages → ℕ → Stage → Stages
put_at stages t stage = λ u. if u == t then stage else stages u

-- the status of an outcome: 0 where the task has no script, none where it was left out
abbrev pub status_in : Option Outcome → Option ℕ
status_in None = None
status_in (Some Skipped) = None
status_in (Some Passed) = Some 0
status_in (Some (Done effect)) = Some effect.status

abbrev pub log_in : Outcome → List ℕ
log_in Skipped = []
log_in Passed = []
log_in (Done effect) = effect.log

-- no task with a script that was touched owns the path, and it is the log file of none that is finished
pub record IsOther (l : Listing) (stages : Stages) (path : Path) : Type 0 where
  pub unowned : (j : ℕ) → has_script (part_at l j) ≡ true → is_touched (stages j) ≡ true → takes (part_at l j).outs path ≡ false
  pub no_log : (j : ℕ) → has_script (part_at l j) ≡ true → is_finished (stages j) ≡ true → path ≢ log_path (part_at l j)

-- The files hold all inputs. Of a finished task with a script they hold exactly the files of its clean outcome,
-- and its log; of a running one no owned file. All else is as at the opening. A finished task has the status of
-- its clean outcome.
pub record Holds (mode : Mode) (book : Book) (l : Listing) (opening : FileMap) (stages : Stages) (world : FileMap) : Type 0 where
  pub inputs : (path : Path) → names l.parts path ≡ true → world path ≡ file_at l.files path
  pub owned : (j : ℕ) → has_script (part_at l j) ≡ true → is_finished (stages j) ≡ true → (path : Path) → takes (part_at l j).outs path ≡ true
      → world path ≡ file_at (written (outcome_in (clean mode book l) j)) path
  pub logs : (j : ℕ) → has_script (part_at l j) ≡ true → is_finished (stages j) ≡ true → world (log_path (part_at l j)) ≡ Some (log_in (outcome_in (clean mode book l) j))
  pub clear : (j : ℕ) → stages j ≡ Running → (path : Path) → takes (part_at l j).outs path ≡ true → world path ≡ None
  pub scripts : (j : ℕ) → stages j ≡ Running → has_script (part_at l j) ≡ true
  pub others : (path : Path) → IsOther l stages path → world path ≡ opening path
  pub told : (j : ℕ) (status : ℕ) → stages j ≡ Finished status → status_in (slice_get (clean mode book l) j) ≡ Some status

-- ---- what a run leaves

-- The clean outcome of the task is what its command does; its owned files are exactly those of it, and its log
-- file has its log.
pub record Shows (mode : Mode) (book : Book) (l : Listing) (t : ℕ) (world : FileMap) : Type 0 where
  pub effect : Effect
  pub ended : slice_get (clean mode book l) t ≡ Some (Done effect)
  pub files : (path : Path) → takes (part_at l t).outs path ≡ true → world path ≡ file_at effect.files path
  pub log : world (log_path (part_at l t)) ≡ Some effect.log

-- The files show each reported task with a script. Every path that is neither owned by such a task nor its log
-- file is as at the opening.
pub record Leaves (mode : Mode) (book : Book) (l : Listing) (reported : ℕ → Bool) (opening world : FileMap) : Type 0 where
  pub effects : (t : ℕ) → has_script (part_at l t) ≡ true → reported t ≡ true → Shows mode book l t world
  pub others : (path : Path)
      → ((t : ℕ) → has_script (part_at l t) ≡ true → reported t ≡ true → (takes (part_at l t).outs path ≡ false) × (path ≢ log_path (part_at l t))) → world path ≡ opening path
