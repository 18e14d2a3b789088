use Rattle.std.proofs.Common.{◌≡◌, take}
use Rattle.record_log.specs.Frames.{opened}
use Rattle.record_log.specs.Batch.{new_entries}
use Rattle.record_log.proofs.frame.opened_bytes.Given as goal

abbrev pub invariant-loop-frame : goal.invariant-loop-frame
invariant-loop-frame l = record { written : l.bytes.items ≡ opened (new_entries (take l.frame-index l.frames)) }
