use Rattle.std.proofs.Common.{arith}
use Rattle.sha_lanes.proofs.Four.{below_four}
use Rattle.sha_lanes.proofs.lanes.nearest.Goals as goal

pub returns : goal.returns
returns c = record {
  lane = c.nearer-3.ensures.lane;
  least = below_four _ (omega (arith, c.nearer-3.ensures.one, c.nearer.ensures.one)) (omega (arith, c.nearer-3.ensures.one, c.nearer.ensures.other))
      (omega (arith, c.nearer-3.ensures.other, c.nearer-2.ensures.one)) (omega (arith, c.nearer-3.ensures.other, c.nearer-2.ensures.other));
}
