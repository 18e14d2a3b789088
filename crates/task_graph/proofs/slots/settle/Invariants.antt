use Rattle.std.proofs.Common.{◌≡◌, ℕ, take, length, cond}
use Rattle.workspaces.specs.Reach.{is_in}
use Rattle.task_graph.specs.Sorting.{slot_at, settled}
use Rattle.task_graph.proofs.slots.settle.Given as goal

abbrev pub invariant-loop-user : goal.invariant-loop-user
invariant-loop-user l = record {
  same : length l.slots.items ≡ length l.initial.slots.items;
  settled : (n : ℕ) → slot_at l.slots.items n ≡ cond (is_in (take l.user-index l.users) n) (settled l.place (slot_at l.initial.slots.items n)) (slot_at l.initial.slots.items n);
}
