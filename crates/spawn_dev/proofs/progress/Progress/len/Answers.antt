use Rattle.std.proofs.Common.{◌<◌, length, arith}
use Rattle.std.proofs.lemmas.Grind.{common_steps}
use Rattle.spawn_dev.specs.Progress.{command_of}
use Rattle.spawn_dev.specs.RunningLaws.{some_known}
use Rattle.spawn_dev.proofs.progress.Progress.len.Goals as goal

pub returns-clause-some : goal.returns-clause-some
returns-clause-some c = λ some.
    let below : 0 < length c.args.self.now.running.items = grind (arith, common_steps, some) in
    some_known command_of c.args.self.now.running.items below
