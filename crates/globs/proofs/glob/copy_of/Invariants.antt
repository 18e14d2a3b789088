use Rattle.std.proofs.Common.{◌≡◌, take}
use Rattle.globs.proofs.glob.copy_of.Given as goal

-- the copies so far
abbrev pub invariant-loop-alternative : goal.invariant-loop-alternative
invariant-loop-alternative l = l.copy.items ≡ take l.alternative-index l.alternatives
