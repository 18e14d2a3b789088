-- What a run over a shared file leaves that a fault of a device or want of memory ended.
use Rattle.std.specs.Prelude.{◌≡◌, ◌⊎◌, ℕ, Bool, true, false, List, [], ◌++◌, Some}
use Rattle.cache_api.specs.Pairs.{Pair}
use Rattle.refusals.specs.declared.refusal.Refusal.{Refusal}
use Rattle.run_laws.specs.Effects.{Book}
use Rattle.run_plan.specs.declared.plan.Plan.{Plan}
use Rattle.run_plan.specs.Answers.{Cause}
use Rattle.answers.specs.Moments.{Moment}
use Rattle.answers.specs.Stops.{StopsUnstarted}
use Rattle.cache_runs.specs.Openings.{IsTrusted, opening_at}
use Rattle.cache_runs.specs.Stops.{StopsOver, StopsDry}
use Rattle.file_runs.specs.Standing.{HoldsAdded}

-- A run of the plan that was opened over these pairs has stopped. What it put till then stands in
-- the file behind them in its order, and where it is trusted, files, pairs, steps and page are as
-- `Stopped` of a plan says.
pub record StopsLive (book : Book) (plan : Plan) (before : List Pair) (Heard : Type 0)
    (old new : Moment) (file : List ℕ) (cause : Cause) (line : List ℕ) : Type 0 where
  pub added : List Pair
  pub holds : HoldsAdded before added file
  pub stopped : IsTrusted book plan before → StopsOver plan (opening_at book old before) new.files
      (before ++ added) new.held.free new.steps Heard old.printed new.printed cause line

-- a dry run of it has stopped: nothing was started, the files are as before, and nothing was put
pub record StopsDryOver (plan : Plan) (before : List Pair) (old new : Moment) (file : List ℕ)
    (cause : Cause) (line : List ℕ) : Type 0 where
  pub holds : HoldsAdded before [] file
  pub files : new.files ≡ old.files
  pub steps : new.steps ≡ old.steps
  pub stopped : StopsDry plan before old.printed new.printed cause line

abbrev pub StopsRun : Bool → Book → Plan → List Pair → Type 0 → Moment → Moment → List ℕ → Cause
    → List ℕ → Type 0
StopsRun true book plan before Heard old new file cause line =
    StopsDryOver plan before old new file cause line
StopsRun false book plan before Heard old new file cause line =
    StopsLive book plan before Heard old new file cause line

-- the file was not opened, which may be for such a reason, or the run over its pairs has stopped
abbrev pub StopsOpening : (Refusal → Type 0) → Bool → Book → Plan → Type 0 → Moment → Moment
    → List ℕ → Cause → List ℕ → Type 0
StopsOpening Reason is_dry book plan Heard old new file cause line =
    StopsUnstarted Reason old new cause line
    ⊎ ((before : List Pair) × (old.held.pairs ≡ Some before)
    × StopsRun is_dry book plan before Heard old new file cause line)
