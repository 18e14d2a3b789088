use Rattle.std.proofs.Common.{◌≡◌, take}
use Rattle.cache_api.specs.Keys.{new_pairs}
use Rattle.compact.specs.Picks.{held_pairs}
use Rattle.compact.proofs.fill.new_pairs.Given as goal

abbrev pub invariant-loop-place : goal.invariant-loop-place
invariant-loop-place l = new_pairs l.pairs.items ≡ held_pairs (take l.place l.held)
