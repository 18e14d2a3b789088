use Rattle.std.proofs.Common.{◌-◌, ◌∙◌, sym, arith}
use Rattle.compact.proofs.Picking.{picking_first, picking_next, picking_enough, picking_all}
use Rattle.compact.proofs.choose.pick_all.Goals as goal

pub loop-left-init : goal.loop-left-init
loop-left-init g c =
    picking_first c.args.from.now c.args.keep c.count-left.result c.args.picks.now c.requires.numbers c.requires.prints c.count-left.ensures.count
    (λ told. c.count-left.ensures.pairs told c.requires.whole)

pub loop-left-preserved : goal.loop-left-preserved
loop-left-preserved g c =
    picking_next c.args.from.now c.loop-left.from c.pick.new.from c.args.keep c.loop-left.left (c.loop-left.left - 1) c.loop-left.picks c.pick.new.picks c.loop-left.invariant
    (omega (arith, c.loop-left-test.true)) (sym c.is_enough-enough.ensures ∙ c.if-enough.false) c.pick.ensures.reads c.in_ok-pick.ensures.cause.counted
    c.in_ok-pick.ensures.picks c.in_ok-pick.ensures.few c.in_ok-pick.ensures.picked

pub returns-then-enough-clause-chosen : goal.returns-then-enough-clause-chosen
returns-then-enough-clause-chosen g c told =
    picking_enough c.args.from.now c.loop-left.from c.args.keep c.loop-left.left c.loop-left.picks c.loop-left.invariant (sym c.is_enough-enough.ensures ∙ c.if-enough.true) told

pub returns-clause-chosen : goal.returns-clause-chosen
returns-clause-chosen g c told =
    picking_all c.args.from.now c.loop-left.from c.args.keep c.loop-left.left c.loop-left.picks c.loop-left.invariant (omega arith) told
