use Rattle.std.proofs.Common.{◌≡◌, map, take}
use Rattle.npm_lock.specs.Lookup.{found_number}
use Rattle.npm_lock.proofs.finds.found_by.Given as goal

abbrev pub invariant-loop-name : goal.invariant-loop-name
invariant-loop-name l = l.items.items ≡ map (λ n. found_number l.entries l.entry.location n.text) (take l.name-index l.name-items)
