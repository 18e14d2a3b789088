use Rattle.std.proofs.Common.{refl, arith}
use Rattle.sha2.specs.Sha256.{hash_after}
use Rattle.sha_lanes.proofs.lane.Lane.start.Goals as goal

pub returns : goal.returns
unfolding hash_after
returns c = record {
  place = refl;
  under_way = record { blocks = c.block_count.ensures; within = omega arith; state = refl; tail = rw c.block_count.ensures c.padded_tail.ensures };
}
