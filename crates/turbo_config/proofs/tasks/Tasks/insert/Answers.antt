use Rattle.turbo_config.proofs.Listed.{insert_reads}
use Rattle.turbo_config.proofs.tasks.Tasks.insert.Goals as goal

pub invariant_of-self-2 : goal.invariant_of-self-2
invariant_of-self-2 c = rw c.in_ok-insert.ensures.entries (insert_reads _ _ _ c.requires c.self.invariant)
