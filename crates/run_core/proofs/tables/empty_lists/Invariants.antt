use Rattle.std.proofs.Common.{◌≡◌, ℕ, [], length}
use Rattle.run_core.specs.Tables.{list_at}
use Rattle.run_core.proofs.tables.empty_lists.Given as goal

abbrev pub invariant-loop : goal.invariant-loop
invariant-loop l = record {
  count : length l.lists.items ≡ l.counter;
  empty : (t : ℕ) → list_at l.lists.items t ≡ [];
}
