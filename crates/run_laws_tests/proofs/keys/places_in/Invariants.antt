use Rattle.std.proofs.Common.{◌≡◌, ◌++◌, map, drop}
use Rattle.run_laws.specs.Picks.{rank}
use Rattle.run_laws.specs.Closures.{in_closure}
use Rattle.run_laws_tests.proofs.keys.places_in.Given as goal

abbrev pub invariant-loop-dep : goal.invariant-loop-dep
invariant-loop-dep l = l.places ++ map (rank (in_closure l.listing l.place)) (drop l.dep-index l.deps) ≡ map (rank (in_closure l.listing l.place)) l.deps
