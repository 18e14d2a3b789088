use Rattle.std.proofs.Common.{◌≡◌, ◌&&◌, ℕ, [], nat_lt}
use Rattle.std.specs.List.{list_all}
use Rattle.std.specs.Ordering.{nat_cmp}
use Rattle.std.specs.BTreeSet.{contains}
use Rattle.workspaces.specs.Reach.{is_in, row_at}
use Rattle.task_graph.proofs.slots.ready_of.Given as goal

abbrev pub invariant-loop-task : goal.invariant-loop-task
invariant-loop-task l = (n : ℕ) → contains nat_cmp l.ready n ≡ (nat_lt n l.task && list_all (is_in []) (row_at l.rows n))
