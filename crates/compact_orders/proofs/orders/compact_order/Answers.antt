use Rattle.std.proofs.Common.{◌+◌}
use Rattle.compact.specs.declared.side.Side.TheVariants.{First, Spare}
use Rattle.answers.specs.Answers.{counts_of}
use Rattle.answers.specs.Facts.{if_refused, if_fault, completes}
use Rattle.store_answers.specs.Stores.{stores_of}
use Rattle.compact_orders.specs.Asking.{IsRefusedCompact}
use Rattle.compact_orders.proofs.Leaving.{left_sound}
use Rattle.compact_orders.proofs.Telling.{stopped_by}
use Rattle.compact_orders.proofs.orders.compact_order.Goals as goal

pub returns-clause-stopped : goal.returns-clause-stopped
returns-clause-stopped g c told tells heard =
    let stores = stores_of (g.S.StoreDevice.content c.args.store) (g.P.StoreDevice.content c.args.spare) in
    let renewed = c.renew-outcome in
    if_fault c.told.result _ _
    (λ cause line stops. stopped_by c.args.keep stores renewed.result.0 (g.K.Sink.written c.args.out.now) (g.K.Sink.written c.told.new.out) cause line
    (renewed.ensures.could told tells) (renewed.ensures.counts told tells) (renewed.ensures.refused told tells) stops)
    (c.told.ensures.stopped heard)

pub returns-clause-complete : goal.returns-clause-complete
returns-clause-complete g c told tells tree start =
    let s = g.S.StoreDevice in
    let p = g.P.StoreDevice in
    let stores = stores_of (s.content c.args.store) (p.content c.args.spare) in
    let renewed = c.renew-outcome in
    let a = s.store_faults c.args.store in
    let now_a = s.store_faults renewed.result.1 in
    let b = p.store_faults c.args.spare in
    let now_b = p.store_faults renewed.result.2 in
    completes (counts_of tree (a + b) start (g.K.Sink.faults c.args.out.now)) (counts_of tree (now_a + now_b) start (g.K.Sink.faults c.told.new.out)) c.told.result (IsRefusedCompact c.args.keep stores)
    (c.told.ensures.cause tree start a now_a b now_b renewed.ensures.cause)
    (if_refused c.told.result _ _ (renewed.ensures.refused told tells) c.told.ensures.refused)

pub returns-clause-sound : goal.returns-clause-sound
returns-clause-sound g c told tells =
    left_sound g.S.StoreDevice c.args.store c.renew-outcome.result.1 First c.args.keep
    (stores_of (g.S.StoreDevice.content c.args.store) (g.P.StoreDevice.content c.args.spare)) (c.renew-outcome.ensures.left told tells)

pub returns-clause-spare_sound : goal.returns-clause-spare_sound
returns-clause-spare_sound g c told tells =
    left_sound g.P.StoreDevice c.args.spare c.renew-outcome.result.2 Spare c.args.keep
    (stores_of (g.S.StoreDevice.content c.args.store) (g.P.StoreDevice.content c.args.spare)) (c.renew-outcome.ensures.spare_left told tells)

pub returns-clause-cause : goal.returns-clause-cause
returns-clause-cause g c tree start =
    let s = g.S.StoreDevice in
    let p = g.P.StoreDevice in
    let renewed = c.renew-outcome in
    c.told.ensures.cause tree start (s.store_faults c.args.store) (s.store_faults renewed.result.1) (p.store_faults c.args.spare) (p.store_faults renewed.result.2) renewed.ensures.cause
