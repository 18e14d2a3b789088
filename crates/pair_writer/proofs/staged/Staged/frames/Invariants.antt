use Rattle.std.proofs.Common.{◌≡◌, take}
use Rattle.record_log.specs.Batch.{new_entries}
use Rattle.pair_writer.specs.Held.{staged_entries}
use Rattle.pair_writer.proofs.staged.Staged.frames.Given as goal

-- the frames so far
abbrev pub invariant-loop-frame : goal.invariant-loop-frame
invariant-loop-frame l =
    new_entries l.frames.items ≡ staged_entries (take l.frame-index l.staged)
