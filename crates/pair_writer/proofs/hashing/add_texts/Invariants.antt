use Rattle.std.proofs.Common.{◌≡◌, ◌++◌, map, take}
use Rattle.cache_api.specs.Keys.{text_of}
use Rattle.pair_writer.specs.FileTexts.{key_texts}
use Rattle.pair_writer.proofs.hashing.add_texts.Given as goal

-- those of the key, and of the artifact's files so far
abbrev pub invariant-loop-file : goal.invariant-loop-file
invariant-loop-file l =
    map (λ text. text.now) l.texts.items
    ≡ map (λ text. text.now) l.fn.texts.items
    ++ (key_texts (text_of l.fn.pair.key) ++ map (λ file. file.1) (take l.file-index l.files))
