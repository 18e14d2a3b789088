-- Where one of two devices is refused, both counts stayed.
use Rattle.std.proofs.Common.{◌≡◌, ◌+◌, ℕ, refl, subst, arith}
use Rattle.rel_path.specs.Causes.{Counts}
use Rattle.artifact_store.specs.declared.error.OpenErr.{OpenErr}
use Rattle.artifact_store.specs.declared.error.OpenErr.TheVariants.{NotAStore, Damaged, Failed, OutOfMemory}
use Rattle.artifact_store.specs.Answers.{is_fault, raised}
use Rattle.compact.specs.declared.error.CurrentErr.{CurrentErr}
use Rattle.compact.specs.Answers.{CountsBoth, is_current_fault, IsCurrentErr, IsStoreFault}
use Rattle.store_answers.specs.Refused.{raised_current}
use Rattle.store_answers.proofs.answering.not_current.Goals as goal

stayed : (fault : OpenErr) → IsStoreFault fault → (before now : ℕ) → now ≡ before
    → Counts {T = Unit {0}} is_fault before now (raised fault)
stayed NotAStore told before now same = record { later = omega (arith, same); counted = same }
stayed (Damaged at) told before now same = record { later = omega (arith, same); counted = same }
stayed Failed told before now same = absurd told
stayed OutOfMemory told before now same = absurd told

pub returns-in-First-clause-cause : goal.returns-in-First-clause-cause
returns-in-First-clause-cause g c tree start a now_a b now_b counts =
    let known = subst (λ (e : CurrentErr). CountsBoth {T = Unit {0}} is_current_fault a now_a b now_b (raised_current e)) c.in-First.is counts in
    let told = subst (λ (e : CurrentErr). IsCurrentErr e) c.in-First.is c.requires in
    c.unopened.ensures.cause tree start (a + b) (now_a + now_b)
    (stayed c.in-First.fault told (a + b) (now_a + now_b) (omega (arith, known.counted.0, known.counted.1)))

pub returns-in-Spare-clause-cause : goal.returns-in-Spare-clause-cause
returns-in-Spare-clause-cause g c tree start a now_a b now_b counts =
    let known = subst (λ (e : CurrentErr). CountsBoth {T = Unit {0}} is_current_fault a now_a b now_b (raised_current e)) c.in-Spare.is counts in
    let told = subst (λ (e : CurrentErr). IsCurrentErr e) c.in-Spare.is c.requires in
    c.unopened-in-Spare.ensures.cause tree start (a + b) (now_a + now_b)
    (stayed c.in-Spare.fault told (a + b) (now_a + now_b) (omega (arith, known.counted.0, known.counted.1)))
