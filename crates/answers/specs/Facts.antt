-- What follows of answers and of what was printed.
use Rattle.std.proofs.Common.{◌≡◌, ℕ, List, ◌++◌, length, sym, ap, ◌∙◌, append-nil, Ok, Err, arith}
use Rattle.std.specs.Prelude.{Result}
use Rattle.std.proofs.Math.Seq.{take-length}
use Rattle.page.specs.declared.error.PageErr.{PageErr}
use Rattle.page.specs.declared.error.PageErr.TheVariants as page
use Rattle.page.specs.Answers.{Emits}
use Rattle.refusals.specs.declared.refusal.Refusal.{Refusal}
use Rattle.refusals.specs.Refusals.{line_of, refusal_text}
use Rattle.run_plan.specs.Answers.{Cause}
use Rattle.run_plan.specs.Answers.Cause.{Device, Output, Memory}
use Rattle.answers.specs.declared.answer.Answer.{Answer}
use Rattle.answers.specs.declared.answer.Answer.TheVariants.{Done, Refused, TreeFault, StoreFault, StartFault, SinkFault, OutOfMemory}
use Rattle.answers.specs.Answers.{FaultCounts, HasCauseIn, HasRunCause, IfDone, IfRefused, IsNoFault}
use Rattle.answers.specs.Answers.{IsNothingBut, IsQuiet, IsDoneOrMemory, Completes}
use Rattle.answers.specs.Stops.{IfFault, PrintsSome, CutsText, CutsRefusal, StopsEarly}

-- ---- answers

pub not_done : (answer : Answer) (P : ℕ → Type 0) → IfDone answer (λ _. ⊥) → IfDone answer P
not_done (Done status) P h = absurd h
not_done (Refused reason) P h = tt
not_done TreeFault P h = tt
not_done StoreFault P h = tt
not_done StartFault P h = tt
not_done SinkFault P h = tt
not_done OutOfMemory P h = tt

pub if_refused : (answer : Answer) (P Q : Refusal → Type 0) → ((reason : Refusal) → P reason → Q reason) → IfRefused answer P → IfRefused answer Q
if_refused (Done status) P Q more h = tt
if_refused (Refused reason) P Q more h = more reason h
if_refused TreeFault P Q more h = tt
if_refused StoreFault P Q more h = tt
if_refused StartFault P Q more h = tt
if_refused SinkFault P Q more h = tt
if_refused OutOfMemory P Q more h = tt

-- nothing is answered but the one reason
pub nothing_but : (answer : Answer) (reason other : Refusal) → reason ≡ other → IfDone answer (λ _. ⊥) → IfRefused answer (λ answered. answered ≡ other) → IsNothingBut reason answer
nothing_but answer reason other same done refused = (done, if_refused answer (λ answered. answered ≡ other) (λ answered. answered ≡ reason) (λ answered is. is ∙ sym same) refused)

-- what a run may answer others may answer that put no results
pub cause_of_run : (old new : FaultCounts) (answer : Answer) → HasCauseIn old new answer
    → HasRunCause old new answer
cause_of_run old new (Done status) h = h
cause_of_run old new (Refused refusal) h = h
cause_of_run old new TreeFault h = (h.0, omega (arith, h.1), h.2, h.3)
cause_of_run old new StoreFault h = h
cause_of_run old new StartFault h = (h.0, h.1, omega (arith, h.2), h.3)
cause_of_run old new SinkFault h = (h.0, h.1, omega (arith, h.2), h.3)
cause_of_run old new OutOfMemory h = (h.0, omega (arith, h.1), h.2, h.3)

-- where no count rose, no fault is answered
pub no_run_fault : (old new : FaultCounts) (answer : Answer) → HasRunCause old new answer
    → IsQuiet old new → IsNoFault answer
no_run_fault old new (Done status) h quiet = tt
no_run_fault old new (Refused refusal) h quiet = tt
no_run_fault old new TreeFault h quiet = absurd (omega (arith, h.0, quiet.tree.0, quiet.tree.1))
no_run_fault old new StoreFault h quiet =
    absurd (omega (arith, h.0, quiet.store.0, quiet.store.1))
no_run_fault old new StartFault h quiet =
    absurd (omega (arith, h.0, quiet.start.0, quiet.start.1))
no_run_fault old new SinkFault h quiet = absurd (omega (arith, h.0, quiet.sink.0, quiet.sink.1))
no_run_fault old new OutOfMemory h quiet = tt

-- so it is of others
pub no_fault : (old new : FaultCounts) (answer : Answer) → HasCauseIn old new answer → IsQuiet old new → IsNoFault answer
no_fault old new answer h = no_run_fault old new answer (cause_of_run old new answer h)

-- where no fault and no refusal is answered, it came to its end, or memory was wanting
done_or_memory : (answer : Answer) (Reason : Refusal → Type 0) → IsNoFault answer
    → IfRefused answer Reason → ((reason : Refusal) → Reason reason → ⊥) → IsDoneOrMemory answer
done_or_memory (Done status) Reason quiet refused none = tt
done_or_memory (Refused reason) Reason quiet refused none = none reason refused
done_or_memory TreeFault Reason quiet refused none = quiet
done_or_memory StoreFault Reason quiet refused none = quiet
done_or_memory StartFault Reason quiet refused none = quiet
done_or_memory SinkFault Reason quiet refused none = quiet
done_or_memory OutOfMemory Reason quiet refused none = tt

pub run_completes : (old new : FaultCounts) (answer : Answer) (Reason : Refusal → Type 0)
    → HasRunCause old new answer → IfRefused answer Reason → Completes old new Reason answer
run_completes old new answer Reason cause refused quiet none =
    done_or_memory answer Reason (no_run_fault old new answer cause quiet) refused none

pub completes : (old new : FaultCounts) (answer : Answer) (Reason : Refusal → Type 0)
    → HasCauseIn old new answer → IfRefused answer Reason → Completes old new Reason answer
completes old new answer Reason cause =
    run_completes old new answer Reason (cause_of_run old new answer cause)

-- ---- what was printed

-- whatever putting a text answers, some first part of it was printed
pub emits_some : (text before after : List ℕ) (result : Result (Unit {0}) PageErr)
    → Emits text before after result → PrintsSome text before after
emits_some text before after (Ok done) put =
    (length text, put ∙ ap (λ x. before ++ x) (sym (take-length text)))
emits_some text before after (Err page.SinkFault) put = put
emits_some text before after (Err page.OutOfMemory) put = (0, put ∙ sym (append-nil before))

-- what holds of a fault gives what follows from it
pub if_fault : (answer : Answer) (P Q : Cause → List ℕ → Type 0)
    → ((cause : Cause) (line : List ℕ) → P cause line → Q cause line)
    → IfFault answer P → IfFault answer Q
if_fault (Done status) P Q more h = tt
if_fault (Refused refusal) P Q more h = tt
if_fault TreeFault P Q more h = more _ _ h
if_fault StoreFault P Q more h = more _ _ h
if_fault StartFault P Q more h = more _ _ h
if_fault SinkFault P Q more h = more _ _ h
if_fault OutOfMemory P Q more h = more _ _ h

-- a premise may stand within
pub within : (answer : Answer) (A : Type 0) (P : Cause → List ℕ → Type 0)
    → (A → IfFault answer P) → IfFault answer (λ cause line. A → P cause line)
within (Done status) A P h = tt
within (Refused refusal) A P h = tt
within TreeFault A P h = h
within StoreFault A P h = h
within StartFault A P h = h
within SinkFault A P h = h
within OutOfMemory A P h = h

-- the line of a refusal was cut, and that is a reason
pub cuts_as : (R : Refusal → Type 0) (reason : Refusal) → R reason → (before after : List ℕ)
    (cause : Cause) → CutsText cause (line_of (refusal_text reason)) before after
    → CutsRefusal R cause before after
cuts_as R reason is before after Device cut = cut
cuts_as R reason is before after Output cut = (reason, is, cut)
cuts_as R reason is before after Memory cut = cut

-- nothing was printed but the line of a refusal
pub cut_early : (R : Refusal → Type 0) (before after : List ℕ) (cause : Cause) (line : List ℕ)
    → CutsRefusal R cause before after → StopsEarly R before after cause line
cut_early R before after Device line cut = absurd cut
cut_early R before after Output line cut = cut
cut_early R before after Memory line cut = cut

-- the same for other reasons
pub early_as : (R S : Refusal → Type 0) → ((reason : Refusal) → R reason → S reason)
    → (before after : List ℕ) (cause : Cause) (line : List ℕ)
    → StopsEarly R before after cause line → StopsEarly S before after cause line
early_as R S more before after Device line told = told
early_as R S more before after Output line cut = (cut.0, more cut.0 cut.1, cut.2)
early_as R S more before after Memory line none = none
