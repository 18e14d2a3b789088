use Rattle.std.proofs.Common.{◌≡◌, drop}
use Rattle.npm_lock.specs.Lacks.{least_after, start_lacks}
use Rattle.npm_lock.proofs.start.start_lack.Given as goal

abbrev pub invariant-loop-start : goal.invariant-loop-start
invariant-loop-start l = least_after (start_lacks l.entries (drop l.start-index l.starts)) l.least ≡ least_after (start_lacks l.entries l.starts) l.initial.least
