use Rattle.std.proofs.Common.{◌-◌, length}
use Rattle.compact.proofs.Parts.{IsFilling}
use Rattle.compact.proofs.fill.fill.Given as goal

abbrev pub invariant-loop-place : goal.invariant-loop-place
invariant-loop-place g l = IsFilling l.fn.from l.from l.fn.to l.to l.numbers l.place

abbrev pub decreases-loop-place : goal.decreases-loop-place
decreases-loop-place g l = length l.numbers - l.place
