use Rattle.std.proofs.Common.{◌≡◌, ◌<◌, ℕ, true}
use Rattle.run_core.specs.Core.{rules, has_command}
use Rattle.core_bench.proofs.run.Given as goal

abbrev pub invariant-loop-moves : goal.invariant-loop-moves
invariant-loop-moves l = record {
  size : (rules l.core).size ≡ l.count;
  commands : (t : ℕ) → t < l.count → has_command l.core t ≡ true;
}
