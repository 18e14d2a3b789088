use Rattle.std.proofs.Common.{◌+◌}
use Rattle.std.specs.Option.{option_map_or}
use Rattle.compact.proofs.Seeking.{IsSeeking}
use Rattle.compact.proofs.choose.is_picked.Given as goal

abbrev pub invariant-loop-next : goal.invariant-loop-next
invariant-loop-next g l = IsSeeking l.fn.from l.from l.picks l.digest l.key l.next

abbrev pub decreases-loop-next : goal.decreases-loop-next
decreases-loop-next g l = option_map_or (λ place. place + 1) l.next 0
