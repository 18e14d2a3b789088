use Rattle.std.proofs.Common.{◌≡◌, take}
use Rattle.record_log.specs.Batch.{new_entries, room_for_all}
use Rattle.record_log.proofs.frame.need_of_all.Given as goal

abbrev pub invariant-loop-frame : goal.invariant-loop-frame
invariant-loop-frame l = record { sum : l.need ≡ room_for_all (new_entries (take l.frame-index l.frames)) }
