use Rattle.std.proofs.Common.{◌≡◌, ◌<◌, ◌≤◌, ℕ, false, get_or}
use Rattle.std.specs.Prelude.{nat_eq}
use Rattle.pair_index.proofs.keys.Keys.with_len.Given as goal

-- none of those gone over has that length
abbrev pub invariant-loop-limit : goal.invariant-loop-limit
invariant-loop-limit l = record {
  few : l.limit ≤ l.first;
  none : (i : ℕ) → l.limit ≤ i → i < l.first → nat_eq (get_or l.fn.self.lens.items i 0) l.len ≡ false;
}

abbrev pub decreases-loop-limit : goal.decreases-loop-limit
decreases-loop-limit l = l.limit
