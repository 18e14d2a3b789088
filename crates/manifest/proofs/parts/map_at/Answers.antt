use Rattle.std.specs.List.Sorted.{IsStrictlySortedBy}
use Rattle.manifest.proofs.Lookups.{map_fault, kinds_in}
use Rattle.manifest.proofs.parts.map_at.Goals as goal

pub returns-in-Ok-None-clause-ascending : goal.returns-in-Ok-None-clause-ascending
unfolding IsStrictlySortedBy
returns-in-Ok-None-clause-ascending c = rw c.new.ensures tt

pub returns-in-Err-clause-found : goal.returns-in-Err-clause-found
returns-in-Err-clause-found c = rw c.from.ensures (map_fault _ c.in-Err.error (kinds_in _ _) c.in-Err.ensures.pairs)
