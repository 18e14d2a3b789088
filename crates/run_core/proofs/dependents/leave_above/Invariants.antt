use Rattle.std.proofs.Common.{◌≡◌, ◌-◌, ◌<◌, ℕ, true, length}
use Rattle.run_core.specs.Greedy.{Rules, AreLower}
use Rattle.run_core.specs.Core.{states_in}
use Rattle.run_core.specs.Sets.{has}
use Rattle.run_core.specs.Tables.{Mirrors, IsClosed}
use Rattle.run_core.proofs.Leaving.{Spread, lowest}
use Rattle.run_core.proofs.dependents.leave_above.Given as goal

abbrev pub invariant-loop-t : goal.invariant-loop-t
invariant-loop-t l = record {
  room : length l.pending ≡ length l.fn.pending;
  below : (u : ℕ) → has l.pending u ≡ true → u < length l.states;
  spread : (g : Rules) → AreLower g → Mirrors g l.dependents → IsClosed g (states_in l.fn.states) → Spread g l.from (states_in l.fn.states) (states_in l.states) l.pending;
}

abbrev pub decreases-loop-t : goal.decreases-loop-t
decreases-loop-t l = length l.pending - lowest l.pending
