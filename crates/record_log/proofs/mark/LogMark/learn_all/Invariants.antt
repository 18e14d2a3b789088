use Rattle.std.proofs.Common.{◌≡◌, ◌≤◌, ◌+◌, ◌++◌, true, List, length, take, vec_len, vec_capacity}
use Rattle.record_log.specs.Kinds.{Entry}
use Rattle.record_log.specs.Frames.{opened, all_formed}
use Rattle.record_log.specs.Batch.{new_entries}
use Rattle.record_log.specs.Kept.{IsIndexOf}
use Rattle.record_log.proofs.mark.LogMark.learn_all.Given as goal

abbrev pub invariant-loop-frame : goal.invariant-loop-frame
invariant-loop-frame l = record {
  index : (es : List Entry) → IsIndexOf l.fn.self es → all_formed es (new_entries l.frames) ≡ true
      → IsIndexOf l.self (es ++ new_entries (take l.frame-index l.frames));
  end : l.self.end ≡ l.fn.self.end + length (opened (new_entries (take l.frame-index l.frames)));
  count : vec_len l.self.seats ≡ vec_len l.fn.self.seats + l.frame-index;
  capacity : vec_capacity l.fn.self.seats ≤ vec_capacity l.self.seats;
}
