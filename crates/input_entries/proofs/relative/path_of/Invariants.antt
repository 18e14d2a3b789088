use Rattle.std.proofs.Common.{◌≡◌, take}
use Rattle.input_entries.proofs.relative.path_of.Given as goal

-- the names so far
abbrev pub invariant-loop-name : goal.invariant-loop-name
invariant-loop-name l = l.path ≡ take l.name-index l.names
