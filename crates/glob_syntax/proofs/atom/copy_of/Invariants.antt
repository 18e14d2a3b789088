use Rattle.std.proofs.Common.{◌≡◌, take}
use Rattle.glob_syntax.proofs.atom.copy_of.Given as goal

-- the copies so far
abbrev pub invariant-loop-atom : goal.invariant-loop-atom
invariant-loop-atom l = l.copy.items ≡ take l.atom-index l.atoms
