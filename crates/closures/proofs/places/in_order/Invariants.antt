use Rattle.std.proofs.Common.{◌≡◌, ◌++◌}
use Rattle.closures.proofs.places.in_order.Given as goal

abbrev pub invariant-loop-place : goal.invariant-loop-place
invariant-loop-place l = l.places.items ++ l.place-iterator ≡ l.set.keys
