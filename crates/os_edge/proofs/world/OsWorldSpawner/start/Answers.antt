use Rattle.os_edge.proofs.CommandLists.{started}
use Rattle.os_edge.proofs.world.OsWorldSpawner.start.Goals as goal

pub returns-clause-started : goal.returns-clause-started
returns-clause-started g c =
    started c.args.self.now.children c.start-outcome.new.self c.args.command c.args.self.now.start_faults c.counted.new.faults c.start-outcome.result c.in_ok-counted.field-0
    c.in_ok-counted.ensures.value c.start-outcome.ensures.started c.requires.fresh
