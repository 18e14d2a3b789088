use Rattle.std.proofs.Common.{refl}
use Rattle.sha_lanes.proofs.Vectors.{rounds_more}
use Rattle.sha_lanes.proofs.block.step.Goals as goal

pub returns : goal.returns
returns c j h words lt has held =
    rounds_more h words _ c.args.t _ _ _ held refl (has c.args.t c.requires) (c.round.ensures j lt)
