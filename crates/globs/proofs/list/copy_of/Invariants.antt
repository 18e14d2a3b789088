use Rattle.std.proofs.Common.{◌≡◌, take}
use Rattle.globs.proofs.list.copy_of.Given as goal

-- the copies so far
abbrev pub invariant-loop-entry : goal.invariant-loop-entry
invariant-loop-entry l = l.copy.items ≡ take l.entry-index l.entries
