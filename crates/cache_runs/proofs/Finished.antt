-- What holds of a run that came to its end or was refused, from what its parts say.
use Rattle.std.proofs.Common.{◌≡◌, ℕ}
use Rattle.refusals.specs.declared.refusal.Refusal.{Refusal}
use Rattle.answers.specs.declared.answer.Answer.{Answer}
use Rattle.answers.specs.declared.answer.Answer.TheVariants.{Done, Refused, TreeFault, StoreFault}
use Rattle.answers.specs.declared.answer.Answer.TheVariants.{StartFault, SinkFault, OutOfMemory}
use Rattle.answers.specs.Answers.{IfDone, IfRefused}

-- from two facts follows more
pub done_both : (O P Q : ℕ → Type 0) (answer : Answer)
    → ((status : ℕ) → O status → P status → Q status)
    → IfDone answer O → IfDone answer P → IfDone answer Q
done_both O P Q (Done status) more g h = more status g h
done_both O P Q (Refused reason) more g h = tt
done_both O P Q TreeFault more g h = tt
done_both O P Q StoreFault more g h = tt
done_both O P Q StartFault more g h = tt
done_both O P Q SinkFault more g h = tt
done_both O P Q OutOfMemory more g h = tt

-- from what holds
pub done_as : (P Q : ℕ → Type 0) (answer : Answer) → ((status : ℕ) → P status → Q status)
    → IfDone answer P → IfDone answer Q
done_as P Q answer more h = done_both P P Q answer (λ status one other. more status one) h h

-- what holds of every status
pub done_all : (P : ℕ → Type 0) (answer : Answer) → ((status : ℕ) → P status) → IfDone answer P
done_all P (Done status) all = all status
done_all P (Refused reason) all = tt
done_all P TreeFault all = tt
done_all P StoreFault all = tt
done_all P StartFault all = tt
done_all P SinkFault all = tt
done_all P OutOfMemory all = tt

-- a premise may stand within
pub done_under : (answer : Answer) (A : Type 0) (P : ℕ → Type 0) → (A → IfDone answer P)
    → IfDone answer (λ status. A → P status)
done_under (Done status) A P h = h
done_under (Refused reason) A P h = tt
done_under TreeFault A P h = tt
done_under StoreFault A P h = tt
done_under StartFault A P h = tt
done_under SinkFault A P h = tt
done_under OutOfMemory A P h = tt

-- of a dry run
pub dry_done : {W Heard Page : Type 0} (R : ℕ → Type 0) (answer : Answer)
    → IfDone answer (λ _. W) → IfDone answer (λ status. status ≡ 0)
    → (Heard → IfDone answer (λ _. Page))
    → ((status : ℕ) → W → status ≡ 0 → (Heard → Page) → R status) → IfDone answer R
dry_done {W} {Heard} {Page} R answer whole zero page to =
    done_both (λ _. W × (Heard → Page)) (λ status. status ≡ 0) R answer
    (λ status both none. to status both.0 none both.1)
    (done_both (λ _. W) (λ _. Heard → Page) (λ _. W × (Heard → Page)) answer
    (λ status one other. (one, other)) whole (done_under answer Heard (λ _. Page) page)) zero

-- of one that is not dry, where what it left is said under a premise
pub live_done : {W Ready : Type 0} (P R : ℕ → Type 0) (answer : Answer) → IfDone answer (λ _. W)
    → (Ready → IfDone answer P) → ((status : ℕ) → W → (Ready → P status) → R status)
    → IfDone answer R
live_done {W} {Ready} P R answer whole ran to =
    done_both (λ _. W) (λ status. Ready → P status) R answer to whole
    (done_under answer Ready P ran)

-- what holds of every reason
pub refused_all : (P : Refusal → Type 0) (answer : Answer) → ((reason : Refusal) → P reason)
    → IfRefused answer P
refused_all P (Done status) all = tt
refused_all P (Refused reason) all = all reason
refused_all P TreeFault all = tt
refused_all P StoreFault all = tt
refused_all P StartFault all = tt
refused_all P SinkFault all = tt
refused_all P OutOfMemory all = tt
