use Rattle.std.proofs.Common.{◌≡◌, ◌≤◌, ◌+◌, ◌++◌, List, length, take}
use Rattle.cache_api.specs.Pairs.{Pair, chosen}
use Rattle.cache_api.specs.Keys.{new_pairs}
use Rattle.pair_index.specs.Keys.{IsKeysOf, key_room}
use Rattle.pair_index.proofs.keys.Keys.learn_all.Given as goal

abbrev pub invariant-loop-i : goal.invariant-loop-i
invariant-loop-i l = record {
  room : length l.pairs ≤ key_room l.self + l.i;
  keys : (known : List Pair) → IsKeysOf l.fn.self known
      → IsKeysOf l.self (known ++ chosen (take l.i (new_pairs l.pairs)) (take l.i l.puts));
  lengths : l.self.lengths ≡ l.fn.self.lengths;
}
