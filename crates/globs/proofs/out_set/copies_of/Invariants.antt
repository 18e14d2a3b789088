use Rattle.std.proofs.Common.{◌≡◌, take}
use Rattle.globs.proofs.out_set.copies_of.Given as goal

-- the copies so far
abbrev pub invariant-loop-set : goal.invariant-loop-set
invariant-loop-set l = l.copy.items ≡ take l.set-index l.sets
