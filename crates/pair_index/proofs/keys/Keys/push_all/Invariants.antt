use Rattle.std.proofs.Common.{◌≡◌, ◌++◌, List, length, map, take}
use Rattle.cache_api.specs.Pairs.{Pair}
use Rattle.pair_index.specs.Keys.{IsKeysOf}
use Rattle.pair_index.specs.Batch.{key_of, texts_of}
use Rattle.pair_index.proofs.keys.Keys.push_all.Given as goal

-- the keys gone over are taken in
abbrev pub invariant-loop-key : goal.invariant-loop-key
invariant-loop-key l = record {
  at : l.at ≡ length (texts_of (take l.key-index l.keys));
  keys : (known pairs : List Pair) → IsKeysOf l.fn.self known
      → l.keys ≡ map (key_of l.fn.self.lengths) pairs
      → IsKeysOf l.self (known ++ take l.key-index pairs);
  lengths : l.self.lengths ≡ l.fn.self.lengths;
}
