use Rattle.std.proofs.Common.{◌≡◌, take}
use Rattle.ignore_rules.proofs.ignore.copy_of.Given as goal

-- the copies so far
abbrev pub invariant-loop-name : goal.invariant-loop-name
invariant-loop-name l = l.copy.items ≡ take l.name-index l.names
