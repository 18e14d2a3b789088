use Rattle.spawn_dev.specs.RunningLaws.{some_known}
use Rattle.os_children.specs.Taking.{itself}
use Rattle.os_edge.proofs.world.OsWorldSpawner.is_idle.Goals as goal

pub returns-clause-busy : goal.returns-clause-busy
returns-clause-busy g c = λ is. some_known itself c.args.self.now.children (c.is_empty.ensures.some is)
