use Rattle.std.proofs.Common.{◌≡◌, take}
use Rattle.collect.proofs.rules.path_of.Given as goal

-- the names so far
abbrev pub invariant-loop-name : goal.invariant-loop-name
invariant-loop-name l = l.path ≡ take l.name-index l.names
