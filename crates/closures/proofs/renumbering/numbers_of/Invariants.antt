use Rattle.std.proofs.Common.{◌≡◌, ◌++◌, map, drop}
use Rattle.run_laws.specs.Picks.{rank}
use Rattle.closures.specs.Places.{has}
use Rattle.closures.proofs.renumbering.numbers_of.Given as goal

abbrev pub invariant-loop-dep : goal.invariant-loop-dep
invariant-loop-dep l = l.numbers ++ map (rank (has l.kept)) (drop l.dep-index l.deps) ≡ map (rank (has l.kept)) l.deps
