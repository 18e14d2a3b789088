use Rattle.std.proofs.Common.{◌≡◌, ◌++◌, take}
use Rattle.prune.proofs.copying.joined.Given as goal

-- the names so far
abbrev pub invariant-loop-name : goal.invariant-loop-name
invariant-loop-name l = l.joined ≡ l.fn.folder ++ take l.name-index l.name-items
