use Rattle.std.proofs.Common.{◌≡◌, drop, option_map}
use Rattle.run_laws.specs.Ancestors.{is_above}
use Rattle.run_laws_tests.specs.Walks.{last_written}
use Rattle.run_laws_tests.proofs.program.last_written.Given as goal

abbrev pub invariant-loop-other : goal.invariant-loop-other
invariant-loop-other l = last_written (is_above l.listing l.place) 0 l.outcomes l.path (option_map (λ b. b.now) l.below) ≡ last_written (is_above l.listing l.place) l.other (drop l.other l.outcomes) l.path (option_map (λ b. b.now) l.found)
