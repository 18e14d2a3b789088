use Rattle.std.proofs.Common.{◌≡◌, ◌++◌, length, drop}
use Rattle.json_view.specs.Pairs.{least_pointer}
use Rattle.json_view.proofs.pairs.least_pointer.Given as goal

-- the least of the names behind those that are left
abbrev pub invariant-loop-name : goal.invariant-loop-name
invariant-loop-name l = (l.least ≡ least_pointer l.pointer (drop (length l.rest) l.names)) × (l.names ≡ l.rest ++ drop (length l.rest) l.names)

abbrev pub decreases-loop-name : goal.decreases-loop-name
decreases-loop-name l = length l.rest
