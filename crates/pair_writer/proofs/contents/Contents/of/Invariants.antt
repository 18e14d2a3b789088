use Rattle.std.proofs.Common.{◌≡◌, map, take}
use Rattle.record_log.specs.Kinds.{blobs_in}
use Rattle.blob_pool.specs.Contents.{contents_of}
use Rattle.pair_writer.specs.Held.{staged_entries}
use Rattle.pair_writer.specs.Contents.{digests_in, bytes_in}
use Rattle.pair_writer.proofs.contents.Contents.of.Given as goal

-- the contents among the frames so far
abbrev pub invariant-loop-frame : goal.invariant-loop-frame
invariant-loop-frame l = record {
  digests : digests_in l.contents
      ≡ map (λ e. e.key) (blobs_in (staged_entries (take l.frame-index l.frames)));
  bytes : bytes_in l.contents ≡ contents_of (staged_entries (take l.frame-index l.frames));
}
