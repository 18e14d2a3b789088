use Rattle.std.proofs.Common.{◌≡◌, take}
use Rattle.cache_api.specs.Keys.{new_pairs}
use Rattle.held_results.specs.Due.{due_pairs}
use Rattle.held_results.proofs.due.with_due.Given as goal

-- what was due so far
abbrev pub invariant-loop-held : goal.invariant-loop-held
invariant-loop-held l = new_pairs l.all.items ≡ due_pairs (take l.held-index l.due)
