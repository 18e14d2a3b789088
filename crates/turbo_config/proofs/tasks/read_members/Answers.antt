use Rattle.turbo_config.proofs.Listed.{task_reads}
use Rattle.turbo_config.proofs.tasks.read_members.Goals as goal

pub insert-requires : goal.insert-requires
insert-requires c = task_reads _ _ _ _ c.in_ok-entry.ensures
