use Rattle.std.proofs.Common.{◌≡◌, ◌++◌, drop, map}
use Rattle.run_plan.proofs.plan.Plan.deps.Given as goal

abbrev pub invariant-loop-part : goal.invariant-loop-part
invariant-loop-part l = l.deps.items ++ map (λ part. part.deps) (drop l.part-index l.part-items) ≡ map (λ part. part.deps) l.self.listing.parts
