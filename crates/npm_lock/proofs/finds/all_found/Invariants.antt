use Rattle.std.proofs.Common.{◌≡◌, map, take}
use Rattle.npm_lock.specs.Finds.{found_by}
use Rattle.npm_lock.proofs.finds.all_found.Given as goal

abbrev pub invariant-loop-entry : goal.invariant-loop-entry
invariant-loop-entry l = l.finds.items ≡ map (found_by l.entries) (take l.entry-index l.entries)
