use Rattle.std.proofs.Common.{◌≡◌, ◌++◌, drop, map}
use Rattle.run_plan.specs.Plans.{id_at}
use Rattle.run_plan.proofs.plan.Plan.tasks.Given as goal

abbrev pub invariant-loop-place : goal.invariant-loop-place
invariant-loop-place l = l.tasks ++ map (id_at l.self) (drop l.place-index l.places) ≡ map (id_at l.self) l.places
