-- What a call has printed that a fault of a device or want of memory ended.
use Rattle.std.specs.Prelude.{◌≡◌, ℕ, List, [], ◌++◌, take, Result, Err, ⊤}
use Rattle.refusals.specs.declared.refusal.Refusal.{Refusal}
use Rattle.refusals.specs.declared.refusal.DeviceFault.TheVariants as device
use Rattle.refusals.specs.declared.stop.Stop.{Stop}
use Rattle.refusals.specs.Refusals.{line_of, refusal_text, device_fault_line}
use Rattle.run_plan.specs.Answers.{Cause}
use Rattle.run_plan.specs.Answers.Cause.{Device, Output, Memory}
use Rattle.answers.specs.declared.answer.Answer.{Answer}
use Rattle.answers.specs.Moments.{MomentOf}
use Rattle.answers.specs.declared.answer.Answer.TheVariants.{Done, Refused, TreeFault, StoreFault}
use Rattle.answers.specs.declared.answer.Answer.TheVariants.{StartFault, SinkFault, OutOfMemory}

-- What holds where a device's fault or want of memory is answered, of what stopped the call and of
-- the line that names the device: there is none for the output and for memory.
abbrev pub IfFault : Answer → (Cause → List ℕ → Type 0) → Type 0
IfFault (Done status) P = ⊤
IfFault (Refused refusal) P = ⊤
IfFault TreeFault P = P Device (device_fault_line device.Tree)
IfFault StoreFault P = P Device (device_fault_line device.Store)
IfFault StartFault P = P Device (device_fault_line device.Start)
IfFault SinkFault P = P Output []
IfFault OutOfMemory P = P Memory []

-- some first part of the text was printed
abbrev pub PrintsSome : List ℕ → List ℕ → List ℕ → Type 0
PrintsSome text before after = (count : ℕ) × (after ≡ before ++ take count text)

-- what was printed of a text: some first part where the output failed, and nothing where memory was
-- wanting
abbrev pub CutsText : Cause → List ℕ → List ℕ → List ℕ → Type 0
CutsText Device text before after = ⊥
CutsText Output text before after = PrintsSome text before after
CutsText Memory text before after = after ≡ before

-- what was printed of the line of a refusal, for one of these reasons
abbrev pub CutsRefusal : (Refusal → Type 0) → Cause → List ℕ → List ℕ → Type 0
CutsRefusal Reason Device before after = ⊥
CutsRefusal Reason Output before after =
    (reason : Refusal) × Reason reason × PrintsSome (line_of (refusal_text reason)) before after
CutsRefusal Reason Memory before after = after ≡ before

-- nothing was printed but the line of a fault, or of a refusal; and nothing at all after want of
-- memory
abbrev pub StopsEarly : (Refusal → Type 0) → List ℕ → List ℕ → Cause → List ℕ → Type 0
StopsEarly Reason before after Device line = PrintsSome line before after
StopsEarly Reason before after Output line = CutsRefusal Reason Output before after
StopsEarly Reason before after Memory line = CutsRefusal Reason Memory before after

-- Nothing was begun: files and steps are as before, and nothing was printed but the line of a
-- fault, or of a refusal for such a reason.
pub record StopsUnstarted {H : Type 0} (Reason : Refusal → Type 0) (old new : MomentOf H)
    (cause : Cause) (line : List ℕ) : Type 0 where
  pub files : new.files ≡ old.files
  pub steps : new.steps ≡ old.steps
  pub printed : StopsEarly Reason old.printed new.printed cause line

-- an error as a result
abbrev pub raised : Stop → Result (Unit {0}) Stop
raised stop = Err stop
