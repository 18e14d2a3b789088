use Rattle.std.proofs.Common.{◌≡◌, ℕ, false, slice_index_or}
use Rattle.run_core.specs.Core.{rules, has_command}
use Rattle.core_tests.proofs.play.play.Given as goal

abbrev pub invariant-loop : goal.invariant-loop
invariant-loop l = record {
  size : (rules l.core).size ≡ l.count;
  commands : has_command l.core ≡ (λ (t : ℕ). slice_index_or l.case.runs.items t false);
}
