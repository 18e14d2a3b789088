use Rattle.std.proofs.Common.{◌≡◌, ◌≤◌}
use Rattle.run_laws.specs.Picks.{rank}
use Rattle.run_laws.specs.Closures.{in_closure}
use Rattle.run_laws_tests.proofs.keys.rank.Given as goal

abbrev pub invariant-loop-other : goal.invariant-loop-other
invariant-loop-other l = record { count : l.count ≡ rank (in_closure l.listing l.place) l.other; small : l.count ≤ l.other }
