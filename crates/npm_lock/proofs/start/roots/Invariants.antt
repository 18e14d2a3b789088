use Rattle.std.proofs.Common.{◌≡◌, map, take}
use Rattle.npm_lock.specs.Finds.{root_of}
use Rattle.npm_lock.proofs.start.roots.Given as goal

abbrev pub invariant-loop-start : goal.invariant-loop-start
invariant-loop-start l = l.roots.items ≡ map (root_of l.entries) (take l.start-index l.starts)
