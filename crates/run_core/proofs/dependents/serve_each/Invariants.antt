use Rattle.std.proofs.Common.{◌≡◌, ◌+◌, ◌==◌, ◌&&◌, ◌||◌, ℕ, length, take}
use Rattle.run_core.specs.Machine.{is_waiting}
use Rattle.run_core.specs.Core.{states_in}
use Rattle.run_core.specs.Sets.{has}
use Rattle.run_core.specs.Tables.{is_in, times, count_at}
use Rattle.run_core.proofs.dependents.serve_each.Given as goal

abbrev pub invariant-loop-t : goal.invariant-loop-t
invariant-loop-t l = record {
  unmet : (u : ℕ) → count_at l.unmet u + times u (take l.t-index l.dependents) ≡ count_at l.fn.unmet u;
  ready : (u : ℕ) → has l.ready u ≡ (has l.fn.ready u || (is_in u (take l.t-index l.dependents) && (is_waiting (states_in l.states u) && (count_at l.unmet u == 0))));
  room : length l.ready ≡ length l.fn.ready;
}
