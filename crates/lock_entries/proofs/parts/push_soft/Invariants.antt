use Rattle.std.proofs.Common.{◌≡◌, ◌++◌, map}
use Rattle.std.specs.Vec.Iter.{into_iter_items}
use Rattle.lock_entries.specs.Entries.{soft_name}
use Rattle.lock_entries.proofs.parts.push_soft.Given as goal

abbrev pub invariant-loop-text : goal.invariant-loop-text
invariant-loop-text l = l.names ++ map soft_name (into_iter_items l.text-iterator) ≡ l.initial.names ++ map soft_name l.fn.pairs
