use Rattle.std.proofs.Common.{◌≡◌, drop}
use Rattle.run_laws.specs.Ancestors.{is_above}
use Rattle.run_laws_tests.specs.Walks.{names_from}
use Rattle.run_laws_tests.proofs.program.is_input_above.Given as goal

abbrev pub invariant-loop-other : goal.invariant-loop-other
invariant-loop-other l = names_from (is_above l.listing l.place) 0 l.part-items l.path ≡ names_from (is_above l.listing l.place) l.other (drop l.other l.part-items) l.path
