-- Laws of the run without a cache.
use Rattle.std.specs.Prelude.{◌≡◌, ◌≢◌, ◌↔◌, ℕ, ◌<◌, true, List, length, slice_get, Some, None, if◌then◌else◌}
use Rattle.rel_path.specs.Paths.{Path}
use Rattle.rel_path.specs.Files.{file_at}
use Rattle.listing.specs.declared.part.Listing.{Listing}
use Rattle.run_core.specs.declared.states.Mode.{Mode}
use Rattle.run_core.specs.declared.states.Mode.TheVariants.{Never, DependenciesSuccessful, Always}
use Rattle.spawn_dev.specs.declared.effect.Effect.{Effect}
use Rattle.run_laws.specs.declared.outcome.Outcome.{Outcome}
use Rattle.run_laws.specs.declared.outcome.Outcome.TheVariants.{Skipped, Done}
use Rattle.run_laws.specs.Ancestors.{part_at, is_above, IsLower}
use Rattle.run_laws.specs.Effects.{Book}
use Rattle.spawn_dev.specs.Effects.{IsEffect, IsWellBehaved}
use Rattle.run_laws.specs.Clean.{skips, written, seen, outcome, clean, outcome_in}
use Rattle.run_laws.specs.Pairs.{AreGood, EndsWell}
use Rattle.run_laws.specs.Worlds.{is_read}

-- there is an outcome for each place, and each is that of its part by the others
pub record EachLaw : Type 0 where
  pub count : (mode : Mode) (book : Book) (l : Listing) → length (clean mode book l) ≡ length l.parts
  pub each : (mode : Mode) (book : Book) (l : Listing) (i : ℕ) → IsLower l → i < length l.parts → slice_get (clean mode book l) i ≡ Some (outcome mode book l i (clean mode book l))

-- What a task sees at a path: what the last of its ancestors wrote that wrote there, and where none did the input,
-- if it is one of the task or of an ancestor.
pub record SeenLaw : Type 0 where
  pub last : (l : Listing) (i j : ℕ) (outcomes : List Outcome) (path : Path) (bytes : List ℕ) → is_above l i j ≡ true → file_at (written (outcome_in outcomes j)) path ≡ Some bytes
      → ((k : ℕ) → j < k → is_above l i k ≡ true → file_at (written (outcome_in outcomes k)) path ≡ None) → (seen l i outcomes).files path ≡ Some bytes
  pub input : (l : Listing) (i : ℕ) (outcomes : List Outcome) (path : Path) → ((k : ℕ) → is_above l i k ≡ true → file_at (written (outcome_in outcomes k)) path ≡ None)
      → (seen l i outcomes).files path ≡ (if is_read l i path then file_at l.files path else None)

-- an ancestor of the place failed
pub record HasFailedAbove (mode : Mode) (book : Book) (l : Listing) (i : ℕ) : Type 0 where
  pub place : ℕ
  pub above : is_above l i place ≡ true
  pub effect : Effect
  pub ended : slice_get (clean mode book l) place ≡ Some (Done effect)
  pub failed : effect.status ≢ 0

-- in mode `always` no task is left out, and in the others exactly the tasks above a failure
pub record SkippedLaw : Type 0 where
  pub always : (book : Book) (l : Listing) (i : ℕ) → slice_get (clean Always book l) i ≢ Some Skipped
  pub left : (mode : Mode) (book : Book) (l : Listing) (i : ℕ) → skips mode ≡ true → IsLower l → i < length l.parts
      → (slice_get (clean mode book l) i ≡ Some Skipped) ↔ HasFailedAbove mode book l i

-- Where all ends are good in one mode, all modes agree. What is left out is the same in the two modes that leave
-- tasks out.
pub record ModesLaw : Type 0 where
  pub agree : (one other : Mode) (book : Book) (l : Listing) → AreGood (clean one book l) → clean other book l ≡ clean one book l
  pub same : (book : Book) (l : Listing) → clean DependenciesSuccessful book l ≡ clean Never book l

-- An end with status 0 stands on good ends: in a mode that leaves tasks out by itself, and in every mode where no
-- ancestor ended with another status.
pub record EndsLaw : Type 0 where
  pub left : (mode : Mode) (book : Book) (l : Listing) (i : ℕ) (effect : Effect) → skips mode ≡ true → IsLower l → i < length l.parts
      → slice_get (clean mode book l) i ≡ Some (Done effect) → effect.status ≡ 0 → EndsWell mode book l i effect
  pub any : (mode : Mode) (book : Book) (l : Listing) (i : ℕ) (effect : Effect) → IsLower l → i < length l.parts
      → slice_get (clean mode book l) i ≡ Some (Done effect) → effect.status ≡ 0
      → ((j : ℕ) (other : Effect) → is_above l i j ≡ true → slice_get (clean mode book l) j ≡ Some (Done other) → other.status ≡ 0) → EndsWell mode book l i effect

-- What a command does in the run without a cache is an effect of its task: a status below 256, and files that
-- ascend and that the task owns.
abbrev pub EffectLaw : Type 0
EffectLaw = (mode : Mode) (book : Book) (l : Listing) (i : ℕ) (effect : Effect) → IsWellBehaved book → IsLower l → i < length l.parts
    → slice_get (clean mode book l) i ≡ Some (Done effect) → IsEffect (part_at l i).outs effect
