use Rattle.std.proofs.Common.{arith, ◌∙◌}
use Rattle.run_core.specs.Core.{states_in}
use Rattle.run_core.specs.Sets.{has}
use Rattle.run_core.proofs.Members.{in-at}
use Rattle.run_core.proofs.Serving.{left-states, left-pending}
use Rattle.run_core.proofs.dependents.leave_each.Goals as goal

pub leave_one-requires-clause-below : goal.leave_one-requires-clause-below
leave_one-requires-clause-below c =
    omega (arith, c.requires.below _ (in-at c.args.dependents.now c.loop-t.t-index c.loop-t-test.true), c.loop-t.auto.states)

pub loop-t-preserved : goal.loop-t-preserved
loop-t-preserved c =
    let xs = c.args.dependents.now in
    let i = c.loop-t.t-index in
    let before = c.loop-t.invariant in
    let step = c.leave_one.ensures in
    record {
      states = left-states xs i c.loop-t-test.true (states_in c.args.states.now) (states_in c.loop-t.states) (states_in c.leave_one.new.states) before.states step.states;
      pending = left-pending xs i c.loop-t-test.true (states_in c.args.states.now) (states_in c.loop-t.states) before.states (has c.args.pending.now) (has c.loop-t.pending) (has c.leave_one.new.pending) before.pending step.pending;
      room = step.room ∙ before.room;
    }
