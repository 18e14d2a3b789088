use Rattle.std.proofs.Common.{arith}
use Rattle.collect.specs.Steps.{IsMadeFrom}
use Rattle.collect.proofs.Jobs.{made_next, made_whole}
use Rattle.collect.proofs.parts.all_parts.Goals as goal

pub loop-place-preserved : goal.loop-place-preserved
loop-place-preserved c =
    rw c.in_ok-push.ensures.pushed (made_next (IsMadeFrom c.args.source.now) c.args.wanted.now c.args.tasks.now c.args.rows.now c.args.uses.now c.requires.fit.same_tasks c.requires.fit.same_rows c.requires.fit.same_uses
    c.loop-place.place c.index-wanted-place.result c.index-tasks-place.result c.index-rows-place.result c.index-uses-place.result c.loop-place.parts c.in_ok-part_of.field-0 c.loop-place-test.true c.index-wanted-place.is c.index-tasks-place.is c.index-rows-place.is c.index-uses-place.is c.loop-place.invariant
    c.in_ok-part_of.ensures.value)

pub returns-clause-value : goal.returns-clause-value
returns-clause-value c =
    made_whole (IsMadeFrom c.args.source.now) c.args.wanted.now c.args.tasks.now c.args.rows.now c.args.uses.now c.requires.fit.same_tasks c.requires.fit.same_rows c.requires.fit.same_uses c.loop-place.place c.loop-place.parts
    (omega (arith, c.loop-place-test.false)) c.loop-place.invariant
