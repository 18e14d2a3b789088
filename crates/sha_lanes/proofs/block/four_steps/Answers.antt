use Rattle.std.proofs.Common.{ap, ◌∙◌, arith}
use Rattle.sha2.specs.Sha256.{rounds}
use Rattle.sha_lanes.proofs.block.four_steps.Goals as goal

pub returns : goal.returns
returns c j h words lt has held =
    let s1 = c.step-v.ensures j h words lt has held in
    let s2 = c.step-v-2.ensures j h words lt has s1 in
    let s3 = c.step-v-3.ensures j h words lt has (s2 ∙ ap (rounds h words) (omega arith)) in
    c.step.ensures j h words lt has (s3 ∙ ap (rounds h words) (omega arith)) ∙ ap (rounds h words) (omega arith)
