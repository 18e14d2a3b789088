use Rattle.std.proofs.Common.{◌≡◌, ◌≤◌, ◌&&◌, ◌==◌, ℕ, nat_lt, length}
use Rattle.run_core.specs.Sets.{has}
use Rattle.run_core.specs.Tables.{count_at}
use Rattle.run_core.proofs.tables.first_ready.Given as goal

abbrev pub invariant-loop-t : goal.invariant-loop-t
invariant-loop-t l = record {
  room : length l.unmet ≤ length l.ready;
  ready : (u : ℕ) → has l.ready u ≡ (nat_lt u l.t && (count_at l.unmet u == 0));
}
