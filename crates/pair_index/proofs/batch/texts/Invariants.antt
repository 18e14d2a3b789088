use Rattle.std.proofs.Common.{◌≡◌, map, take}
use Rattle.pair_index.specs.Batch.{texts_of}
use Rattle.pair_index.proofs.batch.texts.Given as goal

abbrev pub invariant-loop-key : goal.invariant-loop-key
invariant-loop-key l = map (λ text. text.now) l.texts.items ≡ texts_of (take l.key-index l.keys)
