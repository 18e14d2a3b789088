use Rattle.std.proofs.Common.{◌-◌, arith}
use Rattle.sha_lanes.proofs.block.next_word.Goals as goal

pub returns : goal.returns
returns c j words h has =
    rw (
      c.add.ensures j h,
      c.add-sum-2.ensures j h,
      c.add-sum.ensures j h,
      c.small_sigma0.ensures j h,
      c.small_sigma1.ensures j h,
      has (c.args.t - 2) (omega arith),
      has (c.args.t - 7) (omega arith),
      has (c.args.t - 15) (omega arith),
      has (c.args.t - 16) (omega arith),
    )
