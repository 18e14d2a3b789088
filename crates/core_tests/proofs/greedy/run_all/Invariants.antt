use Rattle.std.proofs.Common.{◌≡◌, ℕ, false, slice_index_or}
use Rattle.run_core.specs.Moves.{IsAt}
use Rattle.run_core.specs.Core.{rules, states, has_command}
use Rattle.core_tests.specs.Tasks.{tasks}
use Rattle.core_tests.proofs.greedy.run_all.Given as goal

abbrev pub invariant-loop : goal.invariant-loop
invariant-loop l = record {
  size : (rules l.core).size ≡ l.count;
  commands : has_command l.core ≡ (λ (t : ℕ). slice_index_or l.runs t false);
  same : tasks l.core ≡ tasks l.initial.core;
  at : IsAt (tasks l.core) (states l.core) l.steps.items;
}
