use Rattle.std.proofs.Common.{◌≡◌, take}
use Rattle.globs.proofs.list.copies_of.Given as goal

-- the copies so far
abbrev pub invariant-loop-list : goal.invariant-loop-list
invariant-loop-list l = l.copy.items ≡ take l.list-index l.lists
