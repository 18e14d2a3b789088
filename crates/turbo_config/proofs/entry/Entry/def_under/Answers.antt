use Rattle.turbo_config.specs.Entries.{over, def_of}
use Rattle.turbo_config.proofs.Listed.{def_reads}
use Rattle.turbo_config.proofs.entry.Entry.def_under.Goals as goal

pub returns-clause-reads : goal.returns-clause-reads
unfolding over def_of
returns-clause-reads c = rw c.in_ok-inputs_over.ensures (rw c.in_ok-list_of-2.ensures (def_reads c.args.self.now c.args.above.now c.requires.below c.requires.above))
