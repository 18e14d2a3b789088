use Rattle.std.proofs.Common.{get_or, arith, ◌∙◌}
use Rattle.run_core.specs.Machine.{is_waiting}
use Rattle.run_core.specs.Core.{states_in}
use Rattle.run_core.specs.Sets.{has}
use Rattle.run_core.specs.Tables.{count_at}
use Rattle.run_core.proofs.Members.{times-ahead}
use Rattle.run_core.proofs.Serving.{served-counts, served-ready}
use Rattle.run_core.proofs.dependents.serve_each.Goals as goal

pub serve_one-requires-clause-unmet : goal.serve_one-requires-clause-unmet
serve_one-requires-clause-unmet c =
    let x = get_or c.args.dependents.now c.loop-t.t-index 0 in
    omega (arith, times-ahead c.args.dependents.now c.loop-t.t-index c.loop-t-test.true, c.requires.unmet x, c.loop-t.invariant.unmet x)

pub loop-t-preserved : goal.loop-t-preserved
loop-t-preserved c =
    let xs = c.args.dependents.now in
    let i = c.loop-t.t-index in
    let before = c.loop-t.invariant in
    let step = c.serve_one.ensures in
    record {
      unmet = served-counts xs i c.loop-t-test.true (count_at c.args.unmet.now) (count_at c.loop-t.unmet) (count_at c.serve_one.new.unmet) before.unmet step.unmet;
      ready = served-ready xs i c.loop-t-test.true (count_at c.loop-t.unmet) (count_at c.serve_one.new.unmet) step.unmet (λ u. is_waiting (states_in c.args.states.now u)) (has c.args.ready.now) (has c.loop-t.ready) (has c.serve_one.new.ready) before.ready step.ready;
      room = step.room ∙ before.room;
    }
