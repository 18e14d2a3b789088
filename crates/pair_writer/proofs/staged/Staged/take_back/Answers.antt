use Rattle.std.proofs.Common.{List, take, map, ap, ◌∙◌}
use Rattle.record_log.specs.Kinds.{Entry, blobs_in}
use Rattle.blob_pool.specs.Contents.{contents_of}
use Rattle.pair_writer.specs.declared.frame.StagedFrame.{StagedFrame}
use Rattle.pair_writer.specs.Held.{staged_entries}
use Rattle.pair_writer.specs.Contents.{digests_in, bytes_in}
use Rattle.pair_writer.proofs.Holding.{take-map, held_front}
use Rattle.pair_writer.proofs.staged.Staged.take_back.Goals as goal

pub invariant_of-self : goal.invariant_of-self
invariant_of-self c =
    let old = c.args.self.now in
    let n = c.args.frames in
    let same = c.deref.ensures.value in
    let d = c.in_ok-contents.ensures.digests ∙ ap (λ (l : List StagedFrame). map (λ (e : Entry). e.key) (blobs_in (staged_entries (take n l)))) same in
    let b = c.in_ok-contents.ensures.bytes ∙ ap (λ (l : List StagedFrame). contents_of (staged_entries (take n l))) same in
    let new = c.replace-old.ensures.after in
    record {
      held = held_front old.frames.items c.truncate.new.self.items n (digests_in old.contents) (bytes_in old.contents) (digests_in c.replace-old.new.dest) (bytes_in c.replace-old.new.dest) old.size c.args.size old.held c.truncate.ensures.items (ap digests_in new ∙ d) (ap bytes_in new ∙ b) c.requires.size;
    }

pub returns : goal.returns
returns c = ap staged_entries c.truncate.ensures.items ∙ take-map c.args.frames c.args.self.now.frames.items
