-- What a run is asked and answers.
use Rattle.std.specs.Prelude.{◌≡◌, ℕ, ◌==◌, Bool, true, false, List, ◌++◌, Option, Some}
use Rattle.std.specs.List.{list_any}
use Rattle.rel_path.specs.Causes.{Rose}
use Rattle.tree_dev.specs.Tree.{TreeState}
use Rattle.cache_api.specs.Cache.{CacheState, AllLast}
use Rattle.cache_api.specs.Moments.{Moment, Leaves}
use Rattle.cache_api.specs.Pairs.{Pair}
use Rattle.spawn_dev.specs.declared.command.Step.{Step as Told}
use Rattle.spawn_dev.specs.declared.command.Step.TheVariants as told
use Rattle.spawn_dev.specs.declared.effect.Effect.{Effect}
use Rattle.spawn_dev.specs.Effects.{Seen}
use Rattle.spawn_dev.specs.Spawn.{Runs}
use Rattle.run_plan.specs.declared.plan.Plan.{Plan}
use Rattle.run_plan.specs.Answers.{IsSafe}
use Rattle.run_plan.specs.Openings.{Opening}
use Rattle.task_devices.specs.Stops.{Faults, faults_of, is_sink_fault}
use Rattle.task_devices.specs.declared.error.RunErr.{RunErr}
use Rattle.task_devices.specs.declared.error.RunErr.TheVariants.{TreeFault, StoreFault, StartFault, SinkFault, OutOfMemory}
pub use Rattle.run_board.specs.Causes.{cause_of}

-- what commands do, the files, the pairs and the steps as a run begins
abbrev pub opening_of : {B R D : Type 0} → (B → Seen → Effect) → Runs B → TreeState R
    → CacheState D → Opening
opening_of effect world tree cache = record {
  book = effect world.book;
  files = tree.files;
  pairs = cache.pairs;
  steps = world.steps;
}

-- the counts of faults of the devices, of which the last one is the output's
abbrev pub faults_in : {R D B : Type 0} → TreeState R → CacheState D → Runs B → ℕ → Faults
faults_in tree cache world sink = faults_of tree.faults cache.faults world.faults sink

-- a command could not be started or waited for
abbrev pub is_start_fault : RunErr → Bool
is_start_fault TreeFault = false
is_start_fault StoreFault = false
is_start_fault StartFault = true
is_start_fault SinkFault = false
is_start_fault OutOfMemory = false

-- ---- what was due

-- No result that was due was lost: it was the output that failed, and the cache did not.
pub record NoneLost (error : RunErr) (before now : ℕ) : Type 0 where
  pub output : is_sink_fault error ≡ true
  pub calm : Rose before now → ⊥

-- Of a run that answered this error all results were put that were due.
pub record IsSettled {D : Type 0} (error : RunErr) (old new : CacheState D) : Type 0 where
  pub kept : NoneLost error old.faults new.faults
  pub last : AllLast new

-- ---- at each moment

-- what an image is said to stand for are the pairs, and perhaps some behind them
abbrev pub IsFurther : List Pair → Option (List Pair) → Type 0
IsFurther pairs said = (more : List Pair) × (said ≡ Some (pairs ++ more))

-- these, and more behind them
abbrev pub Grows : {X : Type 0} → List X → List X → Type 0
Grows {X} old new = (more : List X) × (new ≡ old ++ more)

-- a crash leaves pairs that a run may leave which has come to these steps
abbrev pub HasSafePairs : Plan → Opening → ℕ → List Told → Option (List Pair) → Type 0
HasSafePairs plan o room steps said =
    (pairs : List Pair) × (said ≡ Some pairs) × IsSafe plan o room steps pairs

-- What a crash leaves at any moment from the old cache to the new one. D is what the cache keeps,
-- S the cache, X what a crash leaves.
module _ {D S X : Type 0} (state : S → CacheState D) (moment : S → Moment)
    (left : S → Moment → X → Type 0) (says : D → X → Option (List Pair)) where
  -- the pairs of the old cache, and more behind them
  abbrev pub LeavesFurther : S → S → Type 0
  LeavesFurther old new = Leaves moment left old new
      (λ image. IsFurther (state old).pairs (says (state old).base image))

  -- pairs that a run may leave which has come to these steps
  abbrev pub LeavesSafe : Plan → Opening → List Told → S → S → Type 0
  LeavesSafe plan o steps old new = Leaves moment left old new
      (λ image. HasSafePairs plan o (state new).room steps (says (state old).base image))

-- ---- starts and ends

abbrev pub begins_at : ℕ → Told → Bool
begins_at t (told.Start command) = command.place == t
begins_at t (told.End ended) = false

abbrev pub ends_at : ℕ → Told → Bool
ends_at t (told.Start command) = false
ends_at t (told.End ended) = ended.place == t

-- of each command whose start was added to the steps its end was added too
pub record AllEnd (old new : List Told) : Type 0 where
  pub added : List Told
  pub new_is : new ≡ old ++ added
  pub ends : (t : ℕ) → list_any (begins_at t) added ≡ true → list_any (ends_at t) added ≡ true
