use Rattle.std.proofs.Common.{arith, ap, length, ◌<◌}
use Rattle.npm_lock.proofs.Lacking.{name_turn}
use Rattle.npm_lock.proofs.start.entry_lack.Goals as goal

pub loop-i-preserved : goal.loop-i-preserved
loop-i-preserved c =
    let names = c.as_slice-name-items.result.now in
    let within : c.loop-i.i < length c.args.found.now = omega (arith, c.loop-i-test.true, c.requires, ap length c.as_slice-name-items.ensures) in
    name_turn c.args.entry.now.location names c.args.found.now c.loop-i.i c.name-item.result c.loop-i.least c.in_ok-least.least _ (c.loop-i-test.true, c.name-item.is) within c.in_ok-least.ensures.least c.loop-i.invariant
