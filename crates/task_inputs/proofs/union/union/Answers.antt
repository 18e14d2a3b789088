use Rattle.std.proofs.Common.{◌≡◌, ◌∙◌, ◌++◌, ap, arith}
use Rattle.task_inputs.proofs.Places.{next_less, next_equal, next_more, rest_left, rest_right}
use Rattle.task_inputs.proofs.union.union.Goals as goal
use Rattle.task_inputs.proofs.union.union.Goals.{in-Some+in_default-split_first, in_default}

pub loop-x-preserved-then-x-y : goal.loop-x-preserved-then-x-y
loop-x-preserved-then-x-y c =
    next_less c.in-Some.x.now c.in-Some-split_first.y.now c.in-Some.more_xs.now c.in-Some-split_first.more_ys.now c.loop-x.xs.now c.loop-x.ys.now c.loop-x.both.items _ _ c.in-Some.ensures.cases.0 c.in-Some-split_first.ensures.cases.0 c.if-x-y.true c.loop-x.invariant c.in_ok-push.ensures.items

pub loop-x-preserved-then-x-y-2 : goal.loop-x-preserved-then-x-y-2
loop-x-preserved-then-x-y-2 c =
    next_equal c.in-Some.x.now c.in-Some-split_first.y.now c.in-Some.more_xs.now c.in-Some-split_first.more_ys.now c.loop-x.xs.now c.loop-x.ys.now c.loop-x.both.items _ _ c.in-Some.ensures.cases.0 c.in-Some-split_first.ensures.cases.0 c.if-x-y-2.true c.loop-x.invariant c.in_ok-push-2.ensures.items

pub loop-x-preserved : goal.loop-x-preserved
loop-x-preserved c =
    next_more c.in-Some.x.now c.in-Some-split_first.y.now c.in-Some.more_xs.now c.in-Some-split_first.more_ys.now c.loop-x.xs.now c.loop-x.ys.now c.loop-x.both.items _ _ c.in-Some.ensures.cases.0 c.in-Some-split_first.ensures.cases.0 (omega arith) c.loop-x.invariant c.in_ok-push-3.ensures.items

pub returns-clause-value : goal.returns-clause-value
returns-clause-value c =
    let put : c.push_all-2.new.places.items ≡ c.loop-x.both.items ++ c.loop-x.xs.now ++ c.loop-x.ys.now = c.in_ok-push_all-2.ensures.pushed ∙ ap (λ ns. ns ++ c.loop-x.ys.now) c.in_ok-push_all.ensures.pushed in
    elim c.match-split_first.branch [
      | in-Some+in_default-split_first w ↦ put ∙ rest_left c.loop-x.xs.now c.loop-x.ys.now c.loop-x.both.items _ w.in_default-split_first.ensures.cases c.loop-x.invariant
      | in_default w ↦ put ∙ rest_right c.loop-x.xs.now c.loop-x.ys.now c.loop-x.both.items _ w.in_default.ensures.cases c.loop-x.invariant
    ]
