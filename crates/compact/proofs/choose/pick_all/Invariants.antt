use Rattle.compact.proofs.Seeking.{IsPicking}
use Rattle.compact.proofs.choose.pick_all.Given as goal

abbrev pub invariant-loop-left : goal.invariant-loop-left
invariant-loop-left g l = IsPicking l.fn.from l.from l.keep l.left l.picks

abbrev pub decreases-loop-left : goal.decreases-loop-left
decreases-loop-left g l = l.left
