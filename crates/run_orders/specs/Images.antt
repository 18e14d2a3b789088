-- What a crash leaves of the stores at any moment of an order to run.
use Rattle.std.specs.Prelude.{◌≡◌, ◌⊎◌, ℕ, Bool, true, false, List, Option, Some, Ok, ⊤}
use Rattle.cache_api.specs.Pairs.{Pair}
use Rattle.store_dev.specs.declared.device.StoreDevice.{Ghosts}
use Rattle.record_log.specs.Frames.{ReadsAsOneOf}
use Rattle.artifact_store.specs.Pairs.{told_as}
use Rattle.compact.specs.declared.side.Side.{Side}
use Rattle.compact.specs.declared.side.Side.TheVariants.{First, Spare}
use Rattle.compact.specs.Current.{generation_in, pairs_of}
use Rattle.compact.specs.Left.{IsReread}
use Rattle.spawn_dev.specs.declared.command.Step.{Step}
use Rattle.cli_words.specs.declared.order.RunOrder.{RunOrder}
use Rattle.run_laws.specs.Effects.{Book}
use Rattle.run_plan.specs.declared.plan.Plan.{Plan}
use Rattle.run_plan.specs.Openings.{Opening}
use Rattle.runner.specs.Answers.{HasSafePairs}
use Rattle.plan_laws.specs.Laws.{AsksFor}
use Rattle.answers.specs.Moments.{Moment}
use Rattle.shared_runs.specs.declared.turn.Shared as shared
use Rattle.cache_runs.specs.Openings.{IsTrustedRun, opening_at}
use Rattle.second_runs.specs.Images.{IsTrustedSecond, IsLeftInBoth, IsLeftInSecond}
use Rattle.second_runs.specs.Images.{IsOneOfBoth, LeavesPairs}
use Rattle.file_runs.specs.Images.{IsOneOrAddedTo, IsDueBy}
use Rattle.file_runs.specs.Outcomes.{IsTrustedOver}
use Rattle.cli_words.specs.declared.order.Access.{Access}
use Rattle.run_orders.specs.Moments.{OrderMoment, on_current, on_second, on_shared}
use Rattle.run_orders.specs.Uses.{uses_of}
use Rattle.run_orders.specs.declared.uses.Uses.{Uses}
use Rattle.run_orders.specs.declared.uses.Uses.TheVariants.{Current, Second, Shared}

-- ---- what a run of a plan is trusted in

-- the pairs are those that are held
abbrev pub IsTrustedPlan : Bool → Book → Plan → Moment → Type 0
IsTrustedPlan is_dry book plan old =
    (pairs : List Pair) → old.held.pairs ≡ Some pairs → IsTrustedRun is_dry book plan pairs

-- ---- what a crash leaves

-- Of a store that was opened: its pairs, and where the run is not dry, behind them some first part
-- of those that are due by the steps of the run.
abbrev pub IsLeftByRun : Bool → Plan → Opening → List Step → Option (List Pair) → Type 0
IsLeftByRun true plan o steps said = said ≡ Some o.pairs
IsLeftByRun false plan o steps said = (room : ℕ) × HasSafePairs plan o room steps said

-- of the pairs that were held
abbrev pub IsLeftOfHeld : Bool → Book → Plan → Moment → List Step → Option (List Pair) → Type 0
IsLeftOfHeld is_dry book plan old steps said = (pairs : List Pair)
    × (old.held.pairs ≡ Some pairs)
    × IsLeftByRun is_dry plan (opening_at book old pairs) steps said

-- Of one store, whose bytes had that generation: each image is read as one that there was as the
-- call began, or the run left it.
abbrev pub IsLeftInStore : Bool → Book → Plan → Moment → List Step → ℕ → (List ℕ → Type 0)
    → List ℕ → Type 0
IsLeftInStore is_dry book plan old steps generation images c = ReadsAsOneOf images c
    ⊎ IsLeftOfHeld is_dry book plan old steps (told_as generation c)

-- ---- of two stores

-- The current one of two images stands for what that of two images stood for as the call began; or
-- for the pairs that were held, and where the run is not dry behind them for some first part of
-- those that are due by the steps of the run.
abbrev pub IsLeftByPlan : Bool → Book → Plan → Moment → List Step → (List ℕ → Type 0)
    → (List ℕ → Type 0) → List ℕ → List ℕ → Type 0
IsLeftByPlan is_dry book plan old steps stores spares f s = IsOneOfBoth stores spares f s
    ⊎ IsLeftOfHeld is_dry book plan old steps (pairs_of f s)

-- of two devices, of which that side was current, the other one was at most opened again
abbrev pub RereadsOther : {S P : Type 0} → Ghosts S → Ghosts P → Side → S → S → P → P → Type 0
RereadsOther G H First old new spare new_spare = IsReread H spare new_spare
RereadsOther G H Spare old new spare new_spare = IsReread G old new

-- ---- over the stores that an order uses

abbrev pub IsTrustedBy : Uses → RunOrder → Book → Plan → OrderMoment → Type 0
IsTrustedBy Current order book plan old = IsTrustedPlan order.dry book plan (on_current old)
IsTrustedBy Second order book plan old =
    IsTrustedSecond order.dry order.access book plan (on_second order.access old)
IsTrustedBy Shared order book plan old = IsTrustedOver order.dry book plan (on_shared old)

-- the plan is the one that the order asks for
abbrev pub IsTrustedOrder : RunOrder → Book → List (List ℕ × List ℕ) → OrderMoment → Type 0
IsTrustedOrder order book env old = (plan : Plan) → AsksFor order env old.files (Ok plan)
    → IsTrustedBy (uses_of order) order book plan old

-- what the current one of two images of the store and the spare one stands for
abbrev pub IsLeftLocal : Uses → RunOrder → Book → Plan → OrderMoment → List Step
    → (List ℕ → Type 0) → (List ℕ → Type 0) → List ℕ → List ℕ → Type 0
IsLeftLocal Current order book plan old steps stores spares f s =
    IsLeftByPlan order.dry book plan (on_current old) steps stores spares f s
IsLeftLocal Second order book plan old steps stores spares f s =
    IsLeftInBoth order.dry order.access book plan (on_second order.access old) steps
    stores spares f s
IsLeftLocal Shared order book plan old steps stores spares f s = IsOneOfBoth stores spares f s

-- an image of the second store, whose bytes were these
abbrev pub IsLeftSecond : Uses → RunOrder → Book → Plan → OrderMoment → List Step
    → (List ℕ → Type 0) → List ℕ → Type 0
IsLeftSecond Second order book plan old steps images c =
    IsLeftInSecond order.dry order.access book plan (on_second order.access old) steps
    (generation_in old.held.second) images c
IsLeftSecond Current order book plan old steps images c = ReadsAsOneOf images c
IsLeftSecond Shared order book plan old steps images c = ReadsAsOneOf images c

-- an image of the shared file, which a run may have added to till that moment
module _ {H D : Type 0} (G : shared.Ghosts H D) (file : H) where
  abbrev pub IsLeftShared : Uses → RunOrder → Book → Plan → OrderMoment → OrderMoment → List ℕ
      → Type 0
  IsLeftShared Shared order book plan old new c =
      IsOneOrAddedTo G file (on_shared old)
      (IsDueBy order.dry book plan (on_shared old) (on_shared new)) c
  IsLeftShared Current order book plan old new c = G.images file c
  IsLeftShared Second order book plan old new c = G.images file c

  -- it has what there was as the call began, or the run added to it
  abbrev pub AddsToShared : Uses → OrderMoment → List ℕ → Type 0
  AddsToShared Shared old c = IsOneOrAddedTo G file (on_shared old) (λ _ _. ⊤) c
  AddsToShared Current old c = G.images file c
  AddsToShared Second old c = G.images file c

-- whether results are put into the local store, and into the second one
abbrev pub puts_local : Uses → Access → Bool
puts_local Current access = true
puts_local Second access = access.local_puts
puts_local Shared access = false

abbrev pub puts_second : Uses → Access → Bool
puts_second Current access = false
puts_second Second access = access.second_puts
puts_second Shared access = false

-- ---- of the plan that an order asks for, where there is one

abbrev pub IsLeftByOrder : RunOrder → Book → List (List ℕ × List ℕ) → OrderMoment → List Step
    → (List ℕ → Type 0) → (List ℕ → Type 0) → List ℕ → List ℕ → Type 0
IsLeftByOrder order book env old steps stores spares f s = IsOneOfBoth stores spares f s
    ⊎ ((plan : Plan) × AsksFor order env old.files (Ok plan)
    × IsLeftLocal (uses_of order) order book plan old steps stores spares f s)

abbrev pub IsSecondByOrder : RunOrder → Book → List (List ℕ × List ℕ) → OrderMoment → List Step
    → (List ℕ → Type 0) → List ℕ → Type 0
IsSecondByOrder order book env old steps images c = ReadsAsOneOf images c
    ⊎ ((plan : Plan) × AsksFor order env old.files (Ok plan)
    × IsLeftSecond (uses_of order) order book plan old steps images c)

abbrev pub IsSharedByOrder : {H D : Type 0} → shared.Ghosts H D → H → RunOrder → Book
    → List (List ℕ × List ℕ) → OrderMoment → OrderMoment → List ℕ → Type 0
IsSharedByOrder G file order book env old new c = G.images file c
    ⊎ ((plan : Plan) × AsksFor order env old.files (Ok plan)
    × IsLeftShared G file (uses_of order) order book plan old new c)
