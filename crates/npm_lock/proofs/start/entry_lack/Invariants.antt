use Rattle.std.proofs.Common.{◌≡◌, drop}
use Rattle.npm_lock.specs.Lacks.{least_after, lacks_by}
use Rattle.npm_lock.proofs.start.entry_lack.Given as goal

abbrev pub invariant-loop-i : goal.invariant-loop-i
invariant-loop-i l = least_after (lacks_by l.entry.location (drop l.i l.name-items) (drop l.i l.found)) l.least ≡ least_after (lacks_by l.entry.location l.name-items l.found) l.initial.least
