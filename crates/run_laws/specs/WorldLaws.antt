-- Laws of the files while a run goes on.
use Rattle.std.specs.Prelude.{◌≡◌, ◌≢◌, ℕ, ◌<◌, ◌&&◌, true, false, List, length, slice_get, Some}
use Rattle.std.specs.List.{list_any, AllByRecursion}
use Rattle.rel_path.specs.Paths.{Path}
use Rattle.rel_path.specs.Files.{FileMap, file_at, over}
use Rattle.globs.specs.Outputs.{takes}
use Rattle.listing.specs.declared.part.Listing.{Listing}
use Rattle.run_core.specs.declared.states.Mode.{Mode}
use Rattle.spawn_dev.specs.declared.effect.Effect.{Effect}
use Rattle.run_laws.specs.declared.outcome.Outcome.{Outcome}
use Rattle.run_laws.specs.declared.outcome.Outcome.TheVariants.{Done}
use Rattle.run_laws.specs.Ancestors.{part_at, has_script, is_above, IsLower}
use Rattle.run_laws.specs.Closures.{names}
use Rattle.run_laws.specs.Effects.{Book}
use Rattle.spawn_dev.specs.Effects.{IsWellBehaved}
use Rattle.run_laws.specs.Clean.{skips, is_bad, written, clean, outcome_in}
use Rattle.run_laws.specs.Plans.{AreApart}
use Rattle.run_laws.specs.Worlds.{is_read, seen_in, logged, Stages, is_finished, is_well, put_at, Holds, Shows, Leaves}
use Rattle.globs.specs.OwnedFiles.{cleared, restored}
use Rattle.run_laws.specs.Worlds.Stage.{Untouched, Running, Finished}

-- The inputs of the task and its ancestors stand there, and of each ancestor with a script exactly the files that
-- it wrote.
pub record IsReadyFor (l : Listing) (outcomes : List Outcome) (i : ℕ) (world : FileMap) : Type 0 where
  pub inputs : (path : Path) → is_read l i path ≡ true → world path ≡ file_at l.files path
  pub owned : (j : ℕ) → is_above l i j ≡ true → has_script (part_at l j) ≡ true → (path : Path) → takes (part_at l j).outs path ≡ true
      → world path ≡ file_at (written (outcome_in outcomes j)) path

-- what a command does in files that are ready for it is its clean outcome, where no failure leaves it out
abbrev pub StartLaw : Type 0
StartLaw = (mode : Mode) (book : Book) (l : Listing) (i : ℕ) (world : FileMap) → IsWellBehaved book → IsLower l → i < length l.parts
    → has_script (part_at l i) ≡ true → (skips mode && list_any (λ d. is_bad (slice_get (clean mode book l) d)) (part_at l i).deps) ≡ false
    → IsReadyFor l (clean mode book l) i world
    → slice_get (clean mode book l) i ≡ Some (Done (book (seen_in l i world)))

-- Where a run stands: nothing stands in the way of the next steps.
pub record StepsLaw : Type 0 where
  -- at the opening
  pub first : (mode : Mode) (book : Book) (l : Listing) (opening : FileMap) → ((path : Path) → names l.parts path ≡ true → opening path ≡ file_at l.files path)
      → Holds mode book l opening (λ t. Untouched) opening
  -- a task without a script whose dependencies stand well is passed over
  pub pass : (mode : Mode) (book : Book) (l : Listing) (opening world : FileMap) (stages : Stages) (t : ℕ) → IsLower l → t < length l.parts → Holds mode book l opening stages world
      → has_script (part_at l t) ≡ false → AllByRecursion (λ d. is_well mode (stages d) ≡ true) (part_at l t).deps
      → Holds mode book l opening (put_at stages t (Finished 0)) world
  -- a hit: the owned files and the log are those of the clean outcome, which the artifact is
  pub hit : (mode : Mode) (book : Book) (l : Listing) (opening world : FileMap) (stages : Stages) (t : ℕ) (effect : Effect) → AreApart l → Holds mode book l opening stages world
      → has_script (part_at l t) ≡ true → is_finished (stages t) ≡ false → slice_get (clean mode book l) t ≡ Some (Done effect)
      → Holds mode book l opening (put_at stages t (Finished effect.status)) (logged (part_at l t) effect.log (restored (part_at l t).outs effect.files world))
  -- a start: the owned files are removed, and what the command does then is its clean outcome
  pub start : (mode : Mode) (book : Book) (l : Listing) (opening world : FileMap) (stages : Stages) (t : ℕ) → AreApart l → IsWellBehaved book → IsLower l
      → t < length l.parts → Holds mode book l opening stages world
      → has_script (part_at l t) ≡ true → is_finished (stages t) ≡ false → ((a : ℕ) → is_above l t a ≡ true → is_well mode (stages a) ≡ true)
      → Holds mode book l opening (put_at stages t Running) (cleared (part_at l t).outs world)
      × (slice_get (clean mode book l) t ≡ Some (Done (book (seen_in l t (cleared (part_at l t).outs world)))))
  -- an end: the files of the command stand over the others, and its log is kept
  pub end : (mode : Mode) (book : Book) (l : Listing) (opening world : FileMap) (stages : Stages) (t : ℕ) (effect : Effect) → AreApart l → IsWellBehaved book
      → IsLower l → t < length l.parts → Holds mode book l opening stages world
      → stages t ≡ Running → slice_get (clean mode book l) t ≡ Some (Done effect)
      → Holds mode book l opening (put_at stages t (Finished effect.status)) (logged (part_at l t) effect.log (over world (file_at effect.files)))

-- a finished task with a script has left its clean outcome, whatever else runs
abbrev pub ShowsLaw : Type 0
ShowsLaw = (mode : Mode) (book : Book) (l : Listing) (opening world : FileMap) (stages : Stages) (t : ℕ) → IsLower l
    → Holds mode book l opening stages world → has_script (part_at l t) ≡ true → is_finished (stages t) ≡ true
    → Shows mode book l t world

-- where nothing runs, the finished tasks have left what they leave without a cache, and nothing else has changed
abbrev pub LeavesLaw : Type 0
LeavesLaw = (mode : Mode) (book : Book) (l : Listing) (opening world : FileMap) (stages : Stages) → IsLower l → Holds mode book l opening stages world
    → ((t : ℕ) → stages t ≢ Running) → Leaves mode book l (λ t. is_finished (stages t)) opening world
