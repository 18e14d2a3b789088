-- A refusal leaves the counts as they are.
use Rattle.std.proofs.Common.{subst}
use Rattle.prune.specs.Cause.{counts_of}
use Rattle.prune_orders.specs.Steps.{HasCounts}
use Rattle.prune_orders.proofs.Stopping.{same_counts}
use Rattle.prune_orders.proofs.orders.stopped.Goals as goal

pub returns-in-NoPackage-clause-cause : goal.returns-in-NoPackage-clause-cause
returns-in-NoPackage-clause-cause g c tree before after start sink counts =
    let now = g.K.Sink.faults c.args.out.now in
    same_counts tree before after start sink now (g.K.Sink.faults c.refuse.new.out) c.refuse.result
    (subst (λ fault. HasCounts (counts_of tree sink) (counts_of after now) fault) c.in-NoPackage.is counts) (c.refuse.ensures.cause tree before start)

pub returns-in-OutTaken-clause-cause : goal.returns-in-OutTaken-clause-cause
returns-in-OutTaken-clause-cause g c tree before after start sink counts =
    let now = g.K.Sink.faults c.args.out.now in
    same_counts tree before after start sink now (g.K.Sink.faults c.refuse-in-OutTaken.new.out) c.refuse-in-OutTaken.result
    (subst (λ fault. HasCounts (counts_of tree sink) (counts_of after now) fault) c.in-OutTaken.is counts) (c.refuse-in-OutTaken.ensures.cause tree before start)

pub returns-in-Missing-clause-cause : goal.returns-in-Missing-clause-cause
returns-in-Missing-clause-cause g c tree before after start sink counts =
    let now = g.K.Sink.faults c.args.out.now in
    same_counts tree before after start sink now (g.K.Sink.faults c.refuse-in-Missing.new.out) c.refuse-in-Missing.result
    (subst (λ fault. HasCounts (counts_of tree sink) (counts_of after now) fault) c.in-Missing.is counts) (c.refuse-in-Missing.ensures.cause tree before start)

pub returns-in-TooLarge-clause-cause : goal.returns-in-TooLarge-clause-cause
returns-in-TooLarge-clause-cause g c tree before after start sink counts =
    let now = g.K.Sink.faults c.args.out.now in
    same_counts tree before after start sink now (g.K.Sink.faults c.refuse-in-TooLarge.new.out) c.refuse-in-TooLarge.result
    (subst (λ fault. HasCounts (counts_of tree sink) (counts_of after now) fault) c.in-TooLarge.is counts) (c.refuse-in-TooLarge.ensures.cause tree before start)
