-- What a run of a plan over a cache leaves that a fault of a device or want of memory ended.
use Rattle.std.specs.Prelude.{◌≡◌, ℕ, Bool, true, false, List}
use Rattle.rel_path.specs.Files.{FileMap}
use Rattle.cache_api.specs.Pairs.{Pair}
use Rattle.spawn_dev.specs.declared.command.Step.{Step}
use Rattle.run_laws.specs.Effects.{Book}
use Rattle.run_plan.specs.declared.plan.Plan.{Plan}
use Rattle.run_plan.specs.Answers as plans
use Rattle.run_plan.specs.Answers.{Cause, is_output}
use Rattle.run_plan.specs.DryPages.{IsTornDry}
use Rattle.run_plan.specs.Openings.{Opening}
use Rattle.answers.specs.Moments.{MomentOf}
use Rattle.answers.specs.Stops.{PrintsSome}
use Rattle.cache_runs.specs.Openings.{IsTrusted, opening_at}

-- The run has stopped and left this, and behind its page it has printed some first part of the line.
-- What was still due may be lost.
abbrev pub StopsOver : Plan → Opening → FileMap → List Pair → ℕ → List Step → Type 0
    → List ℕ → List ℕ → Cause → List ℕ → Type 0
StopsOver plan o files pairs room steps Heard before after cause line =
    (printed : List ℕ) × plans.Stopped plan o ⊥ files pairs room steps cause Heard before printed
    × PrintsSome line printed after

-- the torn page of a dry run, and some first part of the line
abbrev pub StopsDry : Plan → List Pair → List ℕ → List ℕ → Cause → List ℕ → Type 0
StopsDry plan pairs before after cause line =
    (printed : List ℕ) × IsTornDry plan pairs (is_output cause) before printed
    × PrintsSome line printed after

-- What a run of the plan, dry or not, leaves that stopped. Where it is trusted, a run that is not
-- dry leaves what `Stopped` of a plan says, with some pairs and some room.
abbrev pub StopsRun : {H : Type 0} → Bool → Book → Plan → List Pair → Type 0 → MomentOf H
    → MomentOf H → Cause → List ℕ → Type 0
StopsRun true book plan pairs Heard old new cause line =
    (new.files ≡ old.files) × (new.steps ≡ old.steps)
    × StopsDry plan pairs old.printed new.printed cause line
StopsRun false book plan pairs Heard old new cause line = IsTrusted book plan pairs
    → (room : ℕ) × (left : List Pair) × StopsOver plan (opening_at book old pairs) new.files left
    room new.steps Heard old.printed new.printed cause line
