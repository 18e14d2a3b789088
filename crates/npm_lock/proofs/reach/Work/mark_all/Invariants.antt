use Rattle.std.proofs.Common.{◌≡◌, length}
use Rattle.npm_lock.specs.Reach.{mark_all, AreBelow}
use Rattle.npm_lock.proofs.reach.Work.mark_all.Given as goal

abbrev pub invariant-loop-first : goal.invariant-loop-first
invariant-loop-first l = record {
  left : mark_all l.rest l.self ≡ mark_all l.found l.initial.self;
  below : AreBelow (length l.self.0) l.rest;
}

abbrev pub decreases-loop-first : goal.decreases-loop-first
decreases-loop-first l = length l.rest
