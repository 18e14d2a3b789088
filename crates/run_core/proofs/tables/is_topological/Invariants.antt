use Rattle.std.proofs.Common.{ℕ, ◌<◌, All}
use Rattle.run_core.specs.Tables.{list_at}
use Rattle.run_core.proofs.tables.is_topological.Given as goal

abbrev pub invariant-loop-t : goal.invariant-loop-t
invariant-loop-t l = (u : ℕ) → u < l.t → All (λ d. d < u) (list_at l.deps u)
