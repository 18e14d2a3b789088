use Rattle.std.proofs.Common.{◌≡◌}
use Rattle.sha2.specs.Sha256.{hash_after}
use Rattle.sha_lanes.specs.Lanes.{lane}
use Rattle.sha_lanes.proofs.runs.compress_blocks.Given as goal

abbrev pub invariant-taken : goal.invariant-taken
invariant-taken l =
    (lane 0 l.state ≡ hash_after (lane 0 l.initial.state) l.first l.i)
    × (lane 1 l.state ≡ hash_after (lane 1 l.initial.state) l.second l.i)
    × (lane 2 l.state ≡ hash_after (lane 2 l.initial.state) l.third l.i)
    × (lane 3 l.state ≡ hash_after (lane 3 l.initial.state) l.fourth l.i)
