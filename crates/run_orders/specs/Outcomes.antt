-- What an order to run leaves that came to its end.
use Rattle.std.specs.Prelude.{◌≡◌, ◌⊎◌, ℕ, Bool, true, false, List, ◌++◌, Some, Ok, ⊤}
use Rattle.rel_path.specs.Files.{FileMap}
use Rattle.cache_api.specs.Pairs.{Pair}
use Rattle.store_dev.specs.Device.{Only}
use Rattle.cli_words.specs.declared.order.Access.{Access}
use Rattle.cli_words.specs.declared.order.RunOrder.{RunOrder}
use Rattle.run_laws.specs.Effects.{Book}
use Rattle.run_plan.specs.declared.plan.Plan.{Plan}
use Rattle.run_plan.specs.Answers.{Ran, SameElsewhere}
use Rattle.run_plan.specs.DryPages.{dry_page}
use Rattle.plan_laws.specs.Laws.{AsksFor}
use Rattle.answers.specs.Moments.{Moment}
use Rattle.cache_runs.specs.Openings.{IsTrusted, opening_at}
use Rattle.second_runs.specs.Outcomes.{RanSecond}
use Rattle.file_runs.specs.Outcomes as shared
use Rattle.run_orders.specs.Moments.{OrderMoment, on_current, on_second, on_shared}
use Rattle.run_orders.specs.Uses.{uses_of}
use Rattle.run_orders.specs.declared.uses.Uses.{Uses}
use Rattle.run_orders.specs.declared.uses.Uses.TheVariants.{Current, Second, Shared}

-- A run of the plan over the pairs that its store had. Where commands do what the book says of what
-- they see, and write no more than a store can keep, where no text is of 2^32 bytes or more, and
-- where the pairs tell the truth, it is as `Ran` says: each reported task has the log, status and
-- files of the run without a cache, and exactly the commands without an equal stored listing were
-- started. The room is what the store may still take.
pub record RanPlan (book : Book) (plan : Plan) (Heard : Type 0) (old new : Moment) (status : ℕ)
    : Type 0 where
  pub before : List Pair
  pub opened : old.held.pairs ≡ Some before
  pub after : List Pair
  pub left : new.held.pairs ≡ Some after
  pub room : ℕ
  pub room_is : room ≡ new.held.free
  pub ran : IsTrusted book plan before → Ran plan (opening_at book old before) new.files after room
      new.steps Heard old.printed new.printed status

-- A dry run of the plan: nothing was started, files and pairs are as before, and what a run would
-- do with each task was printed.
pub record RanPlanDry (plan : Plan) (Heard : Type 0) (old new : Moment) (status : ℕ)
    : Type 0 where
  pub pairs : List Pair
  pub opened : old.held.pairs ≡ Some pairs
  pub left : new.held.pairs ≡ Some pairs
  pub files : new.files ≡ old.files
  pub steps : new.steps ≡ old.steps
  pub page_is : Heard → new.printed ≡ old.printed ++ dry_page plan pairs
  pub status_is : status ≡ 0

abbrev pub RanAs : Bool → Book → Plan → Type 0 → Moment → Moment → ℕ → Type 0
RanAs true book plan Heard old new status = RanPlanDry plan Heard old new status
RanAs false book plan Heard old new status = RanPlan book plan Heard old new status

-- ---- over the stores that an order uses

-- the run of the plan, dry or not: over the current one of the store and the spare one, over that
-- and the second store, or over the shared file
abbrev pub RanBy : Uses → RunOrder → Book → Plan → Type 0 → OrderMoment → OrderMoment → ℕ → Type 0
RanBy Current order book plan Heard old new status =
    RanAs order.dry book plan Heard (on_current old) (on_current new) status
RanBy Second order book plan Heard old new status =
    RanSecond order.dry order.access book plan Heard (on_second order.access old)
    (on_second order.access new) status
RanBy Shared order book plan Heard old new status =
    shared.RanAs order.dry book plan Heard (on_shared old) (on_shared new) new.held.shared status

-- the run of the plan that the order asks for, over the stores that it uses
pub record RanOrder (book : Book) (order : RunOrder) (env : List (List ℕ × List ℕ))
    (Heard : Type 0) (old new : OrderMoment) (status : ℕ) : Type 0 where
  pub plan : Plan
  pub asks : AsksFor order env old.files (Ok plan)
  pub ran : RanBy (uses_of order) order book plan Heard old new status

-- ---- what an order leaves of a store that came to its end, or that it does not use

-- a crash leaves these bytes alone: of the store and the spare one
abbrev pub LastsLocal : Uses → Access → List ℕ → (List ℕ → Type 0) → Type 0
LastsLocal Current access bytes images = Only bytes images
LastsLocal Second access bytes images = access.local_reads ≡ true → Only bytes images
LastsLocal Shared access bytes images = ⊤

-- of the second store, and of the shared file
abbrev pub LastsSecond : Uses → List ℕ → (List ℕ → Type 0) → Type 0
LastsSecond Current bytes images = ⊤
LastsSecond Second bytes images = Only bytes images
LastsSecond Shared bytes images = ⊤

abbrev pub LastsShared : Uses → List ℕ → (List ℕ → Type 0) → Type 0
LastsShared Current bytes images = ⊤
LastsShared Second bytes images = ⊤
LastsShared Shared bytes images = Only bytes images

-- a device that is not used is handed back as it was: the store and the spare one
abbrev pub KeepsLocal : {D : Type 0} → Uses → Access → D → D → Type 0
KeepsLocal Current access old new = ⊤
KeepsLocal Second access old new = access.local_reads ≡ false → new ≡ old
KeepsLocal Shared access old new = new ≡ old

-- the second store, and the shared file
abbrev pub KeepsSecond : {D : Type 0} → Uses → D → D → Type 0
KeepsSecond Current old new = new ≡ old
KeepsSecond Second old new = ⊤
KeepsSecond Shared old new = new ≡ old

abbrev pub KeepsShared : {D : Type 0} → Uses → D → D → Type 0
KeepsShared Current old new = new ≡ old
KeepsShared Second old new = new ≡ old
KeepsShared Shared old new = ⊤

-- ---- whatever is answered

-- the files are as before but for what tasks of the plan own and their log files
pub record ChangesOwn (order : RunOrder) (env : List (List ℕ × List ℕ)) (old new : FileMap)
    : Type 0 where
  pub plan : Plan
  pub asks : AsksFor order env old (Ok plan)
  pub elsewhere : SameElsewhere plan old new

-- what an order to run may leave of the files, whatever it answers
abbrev pub MayChangeRun : RunOrder → List (List ℕ × List ℕ) → FileMap → FileMap → Type 0
MayChangeRun order env old new = (new ≡ old) ⊎ ChangesOwn order env old new
