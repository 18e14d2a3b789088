use Rattle.std.proofs.Common.{◌≡◌, ◌++◌, map}
use Rattle.std.specs.Vec.Iter.{into_iter_items}
use Rattle.serde_json.specs.View.{view}
use Rattle.lock_entries.specs.Entries.{needed_name}
use Rattle.lock_entries.proofs.parts.push_needed.Given as goal

abbrev pub invariant-loop-text : goal.invariant-loop-text
invariant-loop-text l = l.names ++ map (needed_name (view l.entry)) (into_iter_items l.text-iterator) ≡ l.initial.names ++ map (needed_name (view l.entry)) l.fn.needed
