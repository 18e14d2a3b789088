use Rattle.std.proofs.Common.{◌≡◌, ◌+◌, drop}
use Rattle.store_dev.specs.Memory.{filled}
use Rattle.store_dev.proofs.memory.crashed.Given as goal

abbrev pub invariant-loop-step : goal.invariant-loop-step
invariant-loop-step l = filled l.fill (l.end + l.keep) l.initial.image.items l.writes ≡ filled l.fill (l.end + l.keep) l.image.items (drop l.step-index l.writes)
