use Rattle.std.proofs.Common.{◌≡◌, ◌&&◌, ◌||◌, ℕ, not, length, take, cond}
use Rattle.run_core.specs.declared.states.State.TheVariants.{Left}
use Rattle.run_core.specs.Core.{states_in}
use Rattle.run_core.specs.Sets.{has}
use Rattle.run_core.specs.Tables.{is_in, is_left}
use Rattle.run_core.proofs.dependents.leave_each.Given as goal

abbrev pub invariant-loop-t : goal.invariant-loop-t
invariant-loop-t l = record {
  states : (u : ℕ) → states_in l.states u ≡ cond (is_in u (take l.t-index l.dependents)) Left (states_in l.fn.states u);
  pending : (u : ℕ) → has l.pending u ≡ (has l.fn.pending u || (is_in u (take l.t-index l.dependents) && not (is_left (states_in l.fn.states u))));
  room : length l.pending ≡ length l.fn.pending;
}
