use Rattle.std.proofs.Common.{◌≡◌, ◌≤◌}
use Rattle.run_core.specs.Greedy.{count_below}
use Rattle.run_laws.specs.Ancestors.{part_at, has_script}
use Rattle.run_plan.proofs.plan.Plan.script_count.Given as goal

abbrev pub invariant-loop-part : goal.invariant-loop-part
invariant-loop-part l = (l.count ≡ count_below (λ t. has_script (part_at l.self.listing t)) l.part-index) × (l.count ≤ l.part-index)
