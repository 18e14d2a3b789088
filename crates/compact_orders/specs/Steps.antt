-- What the steps of an order to compact answer.
use Rattle.std.specs.Prelude.{◌≡◌, Bool, false, Result, Ok, Err}
use Rattle.artifact_store.specs.declared.error.OpenErr.{OpenErr}
use Rattle.compact.specs.declared.error.CurrentErr.{CurrentErr}
use Rattle.compact.specs.declared.error.CurrentErr.TheVariants as two
use Rattle.compact.specs.declared.error.CompactErr.{CompactErr}
use Rattle.compact.specs.declared.error.CompactErr.TheVariants as one
use Rattle.compact.specs.declared.kept.Kept.{Kept}
use Rattle.compact.specs.declared.side.Side.{Side}
use Rattle.compact.specs.declared.side.Side.TheVariants.{First, Spare}
use Rattle.compact.specs.Answers.{is_current_fault, IsCurrentErr}
use Rattle.refusals.specs.declared.refusal.Refusal.{Refusal}
use Rattle.refusals.specs.declared.refusal.Refusal.TheVariants as refusal
use Rattle.store_answers.specs.Refused.{IsCurrentRefusal}
use Rattle.compact_orders.specs.declared.renewing.Halt.{Halt}
use Rattle.compact_orders.specs.declared.renewing.Halt.TheVariants.{Unopened, NoRoom, LastGeneration}

-- one of the devices failed
abbrev pub is_failed : Halt → Bool
is_failed (Unopened fault) = is_current_fault fault
is_failed _ = false

-- the device on that side is no store, or was not opened
abbrev pub unopened_on : Side → OpenErr → CurrentErr
unopened_on First fault = two.First fault
unopened_on Spare fault = two.Spare fault

abbrev pub other : Side → Side
other First = Spare
other Spare = First

-- why the store on that side was not compacted
abbrev pub halt_of : Side → CompactErr → Halt
halt_of side (one.From fault) = Unopened (unopened_on side fault)
halt_of side (one.To fault) = Unopened (unopened_on (other side) fault)
halt_of side (one.NoRoom need free) = NoRoom need free
halt_of side one.LastGeneration = LastGeneration
halt_of side one.Failed = Unopened two.Failed
halt_of side one.OutOfMemory = Unopened two.OutOfMemory

abbrev pub outcome_of : Side → Result Kept CompactErr → Result Kept Halt
outcome_of side (Ok kept) = Ok kept
outcome_of side (Err fault) = Err (halt_of side fault)

-- of a device that was not opened only what its bytes are is told
abbrev pub IsHaltErr : Halt → Type 0
IsHaltErr (Unopened fault) = IsCurrentErr fault
IsHaltErr _ = Unit {0}

-- the refusal that it is
abbrev pub IsHaltRefusal : Halt → Refusal → Type 0
IsHaltRefusal (Unopened fault) reason = IsCurrentRefusal fault reason
IsHaltRefusal (NoRoom need free) reason = reason ≡ refusal.NoRoom need free
IsHaltRefusal LastGeneration reason = reason ≡ refusal.LastGeneration

abbrev pub IsRefusalIn : Result Kept Halt → Refusal → Type 0
IsRefusalIn (Ok kept) reason = ⊥
IsRefusalIn (Err halt) reason = IsHaltRefusal halt reason
