use Rattle.std.proofs.Common.{◌+◌, Err, refl, sym, ◌∙◌, ap, subst}
use Rattle.refusals.specs.declared.refusal.Refusal.TheVariants as refusal
use Rattle.answers.specs.Answers.{HasCauseIn, counts_of}
use Rattle.answers.specs.Facts.{if_fault}
use Rattle.compact_orders.specs.declared.renewing.Halt.{Halt}
use Rattle.compact_orders.specs.declared.renewing.Halt.TheVariants.{NoRoom, LastGeneration}
use Rattle.compact_orders.specs.Stops.{StopsAs}
use Rattle.compact_orders.proofs.Halting.{sum_ok, sum_err, as_current}
use Rattle.compact_orders.proofs.Telling.{refusal_cut}
use Rattle.compact_orders.proofs.orders.told.Goals as goal

pub returns-in-Ok-clause-cause : goal.returns-in-Ok-clause-cause
returns-in-Ok-clause-cause g c tree start a now_a b now_b counts =
    let same = sum_ok c.args.outcome c.in-Ok.kept a now_a b now_b c.in-Ok.is counts in
    subst (λ n. HasCauseIn (counts_of tree (a + b) start (g.K.Sink.faults c.args.out.now)) (counts_of tree n start (g.K.Sink.faults c.tell_kept.new.out)) c.tell_kept.result)
    (sym same) (c.tell_kept.ensures.cause tree (a + b) start)

pub returns-in-Err-Unopened-clause-cause : goal.returns-in-Err-Unopened-clause-cause
returns-in-Err-Unopened-clause-cause g c tree start a now_a b now_b counts =
    c.not_current.ensures.cause tree start a now_a b now_b
    (as_current c.args.outcome c.in-Err-Unopened.fault a now_a b now_b (c.in-Err-Unopened.is ∙ ap (λ (h : Halt). Err h) (rw c.in-Err-Unopened.is at c.in-Err-Unopened.field-0-is)) counts)

pub returns-in-Err-NoRoom-clause-stopped : goal.returns-in-Err-NoRoom-clause-stopped
returns-in-Err-NoRoom-clause-stopped g c heard =
    let x = c.in-Err-NoRoom in
    let before = g.K.Sink.written c.args.out.now in
    let after = g.K.Sink.written c.refuse.new.out in
    if_fault c.refuse.result _ _
    (λ cause line cut. subst (λ o. StopsAs o before after cause line) (sym (x.is ∙ ap (λ (h : Halt). Err h) (rw x.is at x.field-0-is))) (refusal_cut (NoRoom x.need x.free) (refusal.NoRoom x.need x.free) refl before after cause line cut))
    (c.refuse.ensures.cut heard)

pub returns-in-Err-NoRoom-clause-cause : goal.returns-in-Err-NoRoom-clause-cause
returns-in-Err-NoRoom-clause-cause g c tree start a now_a b now_b counts =
    let same = sum_err c.args.outcome (NoRoom c.in-Err-NoRoom.need c.in-Err-NoRoom.free) a now_a b now_b refl (c.in-Err-NoRoom.is ∙ ap (λ (h : Halt). Err h) (rw c.in-Err-NoRoom.is at c.in-Err-NoRoom.field-0-is)) counts in
    subst (λ n. HasCauseIn (counts_of tree (a + b) start (g.K.Sink.faults c.args.out.now)) (counts_of tree n start (g.K.Sink.faults c.refuse.new.out)) c.refuse.result)
    (sym same) (c.refuse.ensures.cause tree (a + b) start)

pub returns-in-Err-LastGeneration-clause-stopped :
    goal.returns-in-Err-LastGeneration-clause-stopped
returns-in-Err-LastGeneration-clause-stopped g c heard =
    let x = c.in-Err-LastGeneration in
    let before = g.K.Sink.written c.args.out.now in
    let after = g.K.Sink.written c.refuse-in-Err-LastGeneration.new.out in
    if_fault c.refuse-in-Err-LastGeneration.result _ _
    (λ cause line cut. subst (λ o. StopsAs o before after cause line) (sym (x.is ∙ ap (λ (h : Halt). Err h) (rw x.is at x.field-0-is))) (refusal_cut LastGeneration refusal.LastGeneration refl before after cause line cut))
    (c.refuse-in-Err-LastGeneration.ensures.cut heard)

pub returns-in-Err-LastGeneration-clause-cause : goal.returns-in-Err-LastGeneration-clause-cause
returns-in-Err-LastGeneration-clause-cause g c tree start a now_a b now_b counts =
    let same = sum_err c.args.outcome LastGeneration a now_a b now_b refl (c.in-Err-LastGeneration.is ∙ ap (λ (h : Halt). Err h) (rw c.in-Err-LastGeneration.is at c.in-Err-LastGeneration.field-0-is)) counts in
    subst (λ n. HasCauseIn (counts_of tree (a + b) start (g.K.Sink.faults c.args.out.now)) (counts_of tree n start (g.K.Sink.faults c.refuse-in-Err-LastGeneration.new.out)) c.refuse-in-Err-LastGeneration.result)
    (sym same) (c.refuse-in-Err-LastGeneration.ensures.cause tree (a + b) start)
