use Rattle.std.proofs.Common.{◌≡◌, ◌++◌, drop}
use Rattle.run_plan.proofs.command.push_externals.Given as goal

abbrev pub invariant-loop-location : goal.invariant-loop-location
invariant-loop-location l = l.all ++ drop l.location-index l.location-items ≡ l.initial.all ++ l.part.externals
