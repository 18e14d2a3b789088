-- What a run over two stores leaves that a fault of a device or want of memory ended.
use Rattle.std.specs.Prelude.{◌⊎◌, ℕ, Bool, List}
use Rattle.cli_words.specs.declared.order.Access.{Access}
use Rattle.refusals.specs.declared.refusal.Refusal.{Refusal}
use Rattle.run_laws.specs.Effects.{Book}
use Rattle.run_plan.specs.declared.plan.Plan.{Plan}
use Rattle.run_plan.specs.Answers.{Cause}
use Rattle.answers.specs.Stops.{StopsUnstarted}
use Rattle.cache_runs.specs.Stops.{StopsRun}
use Rattle.second_runs.specs.Moments.{Moment}
use Rattle.second_runs.specs.Outcomes.{AreStores, pairs_of}

-- the stores were not opened, which may be for such a reason, or the run of the plan over the pairs
-- of both has stopped
abbrev pub StopsSecond : (Refusal → Type 0) → Bool → Access → Book → Plan → Type 0 → Moment
    → Moment → Cause → List ℕ → Type 0
StopsSecond Reason is_dry access book plan Heard old new cause line =
    StopsUnstarted Reason old new cause line
    ⊎ ((both : AreStores old.held)
    × StopsRun is_dry book plan (pairs_of access both) Heard old new cause line)
