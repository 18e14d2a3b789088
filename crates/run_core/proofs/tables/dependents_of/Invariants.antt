use Rattle.std.proofs.Common.{◌≡◌, ℕ, cond, nat_lt, length}
use Rattle.run_core.specs.Tables.{times, list_at}
use Rattle.run_core.proofs.tables.dependents_of.Given as goal

abbrev pub invariant-loop-t : goal.invariant-loop-t
invariant-loop-t l = record {
  count : length l.lists.items ≡ length l.deps;
  mirrors : (v u : ℕ) → times u (list_at l.lists.items v) ≡ cond (nat_lt u l.t) (times v (list_at l.deps u)) 0;
}
