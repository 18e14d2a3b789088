use Rattle.std.proofs.Common.{◌≡◌, drop}
use Rattle.store_dev.specs.Memory.{after}
use Rattle.store_dev.proofs.memory.replayed.Given as goal

abbrev pub invariant-loop-step : goal.invariant-loop-step
invariant-loop-step l = after l.start l.steps ≡ after l.bytes.items (drop l.step-index l.steps)
