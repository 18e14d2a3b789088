use Rattle.std.proofs.Common.{◌≡◌, ◌≢◌, ◌*◌, ◌/◌, ◌<◌, ◌≤◌, ℕ, length}
use Rattle.run_core.specs.Trees.{flag, IsRight}
use Rattle.run_core.proofs.place_set.mend_above.Given as goal

abbrev pub invariant-loop-node : goal.invariant-loop-node
invariant-loop-node l = record {
  above : 1 ≤ l.node;
  below : l.node < length l.flags;
  others : (i : ℕ) → 1 ≤ i → 2 * i < length l.flags → i ≢ l.node / 2 → IsRight l.flags i;
  leaves : (i : ℕ) → length l.flags ≤ 2 * i → flag l.flags i ≡ flag l.fn.flags i;
}

abbrev pub decreases-loop-node : goal.decreases-loop-node
decreases-loop-node l = l.node
