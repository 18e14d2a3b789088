use Rattle.std.proofs.Common.{◌≡◌, ◌++◌, drop}
use Rattle.run_laws.specs.Closures.{in_closure}
use Rattle.run_laws_tests.specs.Walks.{parts_from}
use Rattle.run_laws_tests.proofs.keys.parts_in.Given as goal

abbrev pub invariant-loop-other : goal.invariant-loop-other
invariant-loop-other l = l.parts ++ parts_from (in_closure l.listing l.place) l.other (drop l.other l.part-items) ≡ parts_from (in_closure l.listing l.place) 0 l.part-items
