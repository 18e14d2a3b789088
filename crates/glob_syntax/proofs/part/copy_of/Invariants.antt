use Rattle.std.proofs.Common.{◌≡◌, take}
use Rattle.glob_syntax.proofs.part.copy_of.Given as goal

-- the copies so far
abbrev pub invariant-loop-part : goal.invariant-loop-part
invariant-loop-part l = l.copy.items ≡ take l.part-index l.parts
