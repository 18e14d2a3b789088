use Rattle.npm_lock.proofs.Reaching.{Going, left}
use Rattle.npm_lock.proofs.reach.reach.Given as goal

abbrev pub invariant-loop-number : goal.invariant-loop-number
invariant-loop-number l = Going l.finds l.fn.set.items l.roots l.work

abbrev pub decreases-loop-number : goal.decreases-loop-number
decreases-loop-number l = left l.work
