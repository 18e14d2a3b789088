use Rattle.std.proofs.Common.{◌≡◌, map, length, take}
use Rattle.std.specs.List.{flat_map}
use Rattle.pair_writer.specs.FileTexts.{file_texts}
use Rattle.pair_writer.proofs.hashing.file_digests.Given as goal

-- the files of the pairs so far
abbrev pub invariant-loop-pair : goal.invariant-loop-pair
invariant-loop-pair l = record {
  texts : map (λ text. text.now) l.texts.items ≡ flat_map file_texts (take l.pair-index l.pairs);
  counts : l.counts.items ≡ map (λ pair. length (file_texts pair)) (take l.pair-index l.pairs);
}
