use Rattle.std.proofs.Common.{◌≡◌, ◌++◌, drop, map}
use Rattle.run_laws.specs.Ancestors.{has_script}
use Rattle.run_plan.proofs.plan.Plan.scripts.Given as goal

abbrev pub invariant-loop-part : goal.invariant-loop-part
invariant-loop-part l = l.scripts.items ++ map has_script (drop l.part-index l.part-items) ≡ map has_script l.self.listing.parts
