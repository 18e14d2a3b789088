use Rattle.std.proofs.Common.{arith}
use Rattle.std.proofs.lemmas.Grind.{common_steps}
use Rattle.capture.proofs.Takings.{shared_drop}
use Rattle.capture.proofs.taking.first_shared.Goals as goal

pub returns-then-shared : goal.returns-then-shared
returns-then-shared c = grind (arith, common_steps, shared_drop c.args.outs.now c.args.paths.now c.loop-path.path-index c.path-item.result c.loop-path-test.true)

pub loop-path-preserved : goal.loop-path-preserved
loop-path-preserved c = grind (arith, common_steps, shared_drop c.args.outs.now c.args.paths.now c.loop-path.path-index c.path-item.result c.loop-path-test.true)
