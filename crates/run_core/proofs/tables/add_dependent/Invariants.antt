use Rattle.std.proofs.Common.{◌≡◌, ◌+◌, ◌==◌, ℕ, cond, take}
use Rattle.run_core.specs.Tables.{times, list_at}
use Rattle.run_core.proofs.tables.add_dependent.Given as goal

abbrev pub invariant-loop-d : goal.invariant-loop-d
invariant-loop-d l = (d u : ℕ) → times u (list_at l.lists d) ≡ times u (list_at l.fn.lists d) + cond (u == l.task) (times d (take l.d-index l.deps)) 0
