use Rattle.std.proofs.Common.{◌≡◌, ◌++◌, drop}
use Rattle.npm_lock.specs.Reach.{set_of, links_of}
use Rattle.npm_lock.proofs.externals.linked.Given as goal

abbrev pub invariant-loop-i : goal.invariant-loop-i
invariant-loop-i l = l.folders.items ++ links_of (set_of l.entries l.set) (drop l.i l.entries) ≡ links_of (set_of l.entries l.set) l.entries
