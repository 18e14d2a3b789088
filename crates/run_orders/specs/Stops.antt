-- What an order to run leaves that a fault of a device or want of memory ended.
use Rattle.std.specs.Prelude.{◌≡◌, ◌⊎◌, ℕ, Bool, true, false, List, Some, Ok, Err}
use Rattle.cache_api.specs.Pairs.{Pair}
use Rattle.cli_words.specs.declared.order.RunOrder.{RunOrder}
use Rattle.refusals.specs.declared.refusal.Refusal.{Refusal}
use Rattle.run_laws.specs.Effects.{Book}
use Rattle.run_plan.specs.declared.plan.Plan.{Plan}
use Rattle.run_plan.specs.Answers.{Cause}
use Rattle.plan_laws.specs.Laws.{AsksFor}
use Rattle.answers.specs.Moments.{Moment}
use Rattle.answers.specs.Stops.{StopsUnstarted}
use Rattle.cache_runs.specs.Stops.{StopsRun}
use Rattle.second_runs.specs.Stops.{StopsSecond}
use Rattle.file_runs.specs.Stops.{StopsOpening}
use Rattle.run_orders.specs.Asking.{IsNoneUsed}
use Rattle.run_orders.specs.Moments.{OrderMoment, on_current, on_second, on_shared}
use Rattle.run_orders.specs.Uses.{uses_of}
use Rattle.run_orders.specs.declared.uses.Uses.{Uses}
use Rattle.run_orders.specs.declared.uses.Uses.TheVariants.{Current, Second, Shared}

-- the stores were not opened, which may be for such a reason, or the run of the plan over the
-- pairs has stopped
abbrev pub StopsPlan : (Refusal → Type 0) → Bool → Book → Plan → Type 0 → Moment → Moment → Cause
    → List ℕ → Type 0
StopsPlan Reason is_dry book plan Heard old new cause line =
    StopsUnstarted Reason old new cause line
    ⊎ ((pairs : List Pair) × (old.held.pairs ≡ Some pairs)
    × StopsRun is_dry book plan pairs Heard old new cause line)

-- ---- an order

-- the run of the plan over the stores that the order uses has stopped, or they were not opened,
-- which may be for such a reason
abbrev pub StopsBy : Uses → RunOrder → Book → Plan → Type 0 → OrderMoment → OrderMoment → Cause
    → List ℕ → Type 0
StopsBy Current order book plan Heard old new cause line =
    StopsPlan (IsNoneUsed Current order old.held) order.dry book plan Heard (on_current old)
    (on_current new) cause line
StopsBy Second order book plan Heard old new cause line =
    StopsSecond (IsNoneUsed Second order old.held) order.dry order.access book plan Heard
    (on_second order.access old) (on_second order.access new) cause line
StopsBy Shared order book plan Heard old new cause line =
    StopsOpening (IsNoneUsed Shared order old.held) order.dry book plan Heard (on_shared old)
    (on_shared new) new.held.shared cause line

-- it is the plan that the order asks for
pub record StopsOrder (book : Book) (order : RunOrder) (env : List (List ℕ × List ℕ))
    (Heard : Type 0) (old new : OrderMoment) (cause : Cause) (line : List ℕ) : Type 0 where
  pub plan : Plan
  pub asks : AsksFor order env old.files (Ok plan)
  pub stops : StopsBy (uses_of order) order book plan Heard old new cause line

-- there is no plan, and nothing was begun
abbrev pub StopsUnplanned : RunOrder → List (List ℕ × List ℕ) → OrderMoment → OrderMoment → Cause
    → List ℕ → Type 0
StopsUnplanned order env old new cause line =
    StopsUnstarted (λ reason. AsksFor order env old.files (Err reason)) old new cause line

-- what an order to run leaves that was stopped
abbrev pub StoppedRun : RunOrder → Book → List (List ℕ × List ℕ) → Type 0 → OrderMoment
    → OrderMoment → Cause → List ℕ → Type 0
StoppedRun order book env Heard old new cause line =
    StopsUnplanned order env old new cause line
    ⊎ StopsOrder book order env Heard old new cause line
