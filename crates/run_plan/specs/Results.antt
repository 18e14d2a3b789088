-- What a run is to make of each task: its effect, whether its result is put into the cache, and what its block notes
-- where it is not (Turborepo docs, "Caching": a task is put into the cache when it has ended with status 0; notes are
-- this project's own).
use Rattle.std.specs.Prelude.{◌≡◌, ℕ, ◌<◌, ◌==◌, Bool, true, false, ◌&&◌, List, [], ◌∷◌, ◌++◌, map, filter, MatchBool, IsTrue}
use Rattle.std.specs.List.{list_all}
use Rattle.rel_path.specs.Paths.{Path}
use Rattle.rel_path.specs.Files.{FileMap}
use Rattle.globs.specs.declared.out_set.OutSet.{OutSet}
use Rattle.globs.specs.Outputs.{takes}
use Rattle.globs.specs.OwnedFiles.{restored}
use Rattle.cache_api.specs.Cache.{ample}
use Rattle.cache_api.specs.Artifacts.{File, ascends}
use Rattle.cache_api.specs.Pairs.{Pair, pair_for}
use Rattle.capture.specs.Owned.{SharesNone, SharesFirst, LargeFirst, TakesAll, fits}
use Rattle.page.specs.declared.blocks.Note.{Note}
use Rattle.page.specs.declared.blocks.Note.TheVariants.{Stored, Shared, Large, Full}
use Rattle.spawn_dev.specs.declared.effect.Effect.{Effect}
use Rattle.spawn_dev.specs.declared.command.Step.{Step as Told}
use Rattle.spawn_dev.specs.declared.command.Step.TheVariants as told
use Rattle.run_core.specs.declared.states.Step.{Step}
use Rattle.run_core.specs.declared.states.Step.TheVariants.{Start, End}
use Rattle.run_laws.specs.Picks.{pick}
use Rattle.run_laws.specs.Ancestors.{part_at, is_above}
use Rattle.run_laws.specs.Clean.{clean, outcome_in}
use Rattle.run_laws.specs.Pairs.{is_good}
use Rattle.run_laws.specs.Runs.{Setting, effect_in, clean_pair}
use Rattle.run_plan.specs.declared.plan.Plan.{Plan}
use Rattle.run_plan.specs.Plans.{caches}
use Rattle.run_plan.specs.Commands.{command_of}

-- what the command of the task does in the run without a cache
abbrev pub effect_at : Setting → ℕ → Effect
effect_at s t = effect_in (outcome_in (clean s.mode s.book s.listing) t)

-- a step with the command that starts, or with the log that its end tells
abbrev pub step_of : Plan → Setting → Step → Told
step_of plan s (Start t) = told.Start (command_of plan t)
step_of plan s (End t x) = told.End (record { place = t; status = x; log = (effect_at s t).log })

-- ---- what is put into the cache

-- The result of the task is to be put: `cache` says so, its command ends with status 0, and so did the commands of all
-- its ancestors.
abbrev pub may_store : Plan → Setting → ℕ → Bool
may_store plan s t = caches plan t && (((effect_at s t).status == 0) && list_all is_good (pick (is_above s.listing t) (clean s.mode s.book s.listing)))

-- the files at the opening, with those that the task leaves in place of the ones that it owns
abbrev pub left_by : Setting → ℕ → FileMap
left_by s t = restored (part_at s.listing t).outs (effect_at s t).files s.files

-- no file of the task is shared with another task, and none that it owns is too large
pub record CanTake (files : FileMap) (outs : OutSet) (limit : ℕ) : Type 0 where
  pub alone : SharesNone files outs
  pub fit : (path : Path) → takes outs path ≡ true → fits limit (files path) ≡ true

-- Why the result of the task is not put, where it was to be: the least shared file; else the least owned file over the
-- limit; else want of room, of which twice the bytes of the pair with 64 more are always enough. `Stored`: it is put.
abbrev pub IsNote : Plan → Setting → ℕ → ℕ → Note → Type 0
IsNote plan s room t Stored = CanTake (left_by s t) (part_at s.listing t).outs plan.limit
IsNote plan s room t (Shared path) = SharesFirst (left_by s t) (part_at s.listing t).outs path
IsNote plan s room t (Large path) = LargeFirst (left_by s t) (part_at s.listing t).outs plan.limit path
IsNote plan s room t Full = CanTake (left_by s t) (part_at s.listing t).outs plan.limit × (room < ample (clean_pair s t))

abbrev pub is_stored : Note → Bool
is_stored Stored = true
is_stored (Shared path) = false
is_stored (Large path) = false
is_stored Full = false

-- ---- putting a result

-- these are the files of the task, in order; none is shared or too large
pub record Taken (files : FileMap) (outs : OutSet) (limit : ℕ) (taken : List File) : Type 0 where
  pub all : TakesAll files outs limit taken
  pub ascend : IsTrue (ascends taken)

-- the result with this log was put under the key, or was not for the reason that the note gives
abbrev pub KeptAs : FileMap → OutSet → ℕ → List ℕ → List ℕ → List Pair → ℕ → List Pair → Note → Type 0
KeptAs files outs limit key log before room after Stored = (taken : List File) × Taken files outs limit taken × (after ≡ before ++ pair_for key (log, taken) ∷ [])
KeptAs files outs limit key log before room after (Shared path) = SharesFirst files outs path × (after ≡ before)
KeptAs files outs limit key log before room after (Large path) = LargeFirst files outs limit path × (after ≡ before)
KeptAs files outs limit key log before room after Full = (taken : List File) × Taken files outs limit taken × (room < ample (pair_for key (log, taken))) × (after ≡ before)

-- ---- notes and pairs of a run

-- the note of a task: a reason where its result was to be put, else none
abbrev pub NotedAs : Plan → Setting → ℕ → ℕ → Bool → Note → Type 0
NotedAs plan s room t ended note = MatchBool (ended && may_store plan s t) (IsNote plan s room t note) (note ≡ Stored)

-- the result is put
abbrev pub stores : Plan → Setting → (ℕ → Note) → ℕ → Bool
stores plan s notes t = may_store plan s t && is_stored (notes t)

-- the places of the ends, in order
abbrev pub ends_of : List Step → List ℕ
ends_of [] = []
ends_of (Start t ∷ steps) = ends_of steps
ends_of (End t x ∷ steps) = t ∷ ends_of steps

abbrev pub told_ends : List Told → List ℕ
told_ends [] = []
told_ends (told.Start command ∷ steps) = told_ends steps
told_ends (told.End ended ∷ steps) = ended.place ∷ told_ends steps

-- the pairs that these ends add, in order
abbrev pub due_pairs : Plan → Setting → (ℕ → Note) → List ℕ → List Pair
due_pairs plan s notes ends = map (clean_pair s) (filter (stores plan s notes) ends)
