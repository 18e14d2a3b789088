use Rattle.std.proofs.Common.{◌≡◌, ◌&&◌, ◌||◌, ◌==◌, ℕ, take}
use Rattle.std.specs.Ordering.{nat_cmp}
use Rattle.std.specs.BTreeSet.{contains}
use Rattle.workspaces.specs.Reach.{is_in}
use Rattle.task_graph.specs.Sorting.{slot_at}
use Rattle.task_graph.proofs.slots.wake.Given as goal

abbrev pub invariant-loop-user : goal.invariant-loop-user
invariant-loop-user l = (n : ℕ) → contains nat_cmp l.ready n ≡ (contains nat_cmp l.initial.ready n || (is_in (take l.user-index l.users) n && ((slot_at l.slots n).unmet == 0)))
