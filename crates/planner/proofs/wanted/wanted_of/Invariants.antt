use Rattle.std.proofs.Common.{◌≡◌, take}
use Rattle.planner.specs.Wanted as spec
use Rattle.planner.proofs.wanted.wanted_of.Given as goal

abbrev pub invariant-loop-place : goal.invariant-loop-place
invariant-loop-place l = l.wanted.items ≡ take l.place (spec.wanted_of l.entries.keys l.args l.list)
