use Rattle.std.proofs.Common.{◌≡◌, ◌-◌, List, map}
use Rattle.codes.specs.Codes.{read_str, read_both, read_items}
use Rattle.pair_frames.specs.Runs.{NamedBytes, read_files}
use Rattle.pair_writer.proofs.lists.list_texts.Given as goal

-- the files so far, and those that are to come
abbrev pub invariant-loop-i : goal.invariant-loop-i
invariant-loop-i l = record {
  found : (files : List NamedBytes)
      × (read_files l.fn.bytes
      ≡ read_items (read_both read_str read_str) files (l.count - l.i) l.rest)
      × (map (λ text. text.now) l.texts.items ≡ map (λ file. file.1) files);
}
