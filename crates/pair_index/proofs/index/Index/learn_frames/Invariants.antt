use Rattle.std.proofs.Common.{◌≡◌, ◌≤◌, ◌+◌, ◌++◌, length, take}
use Rattle.pair_frames.specs.Reading.{record_places}
use Rattle.pair_writer.specs.Held.{staged_entries}
use Rattle.pair_index.specs.Index.{frames_in, frame_room}
use Rattle.pair_index.proofs.index.Index.learn_frames.Given as goal

abbrev pub invariant-loop-frame : goal.invariant-loop-frame
invariant-loop-frame l = record {
  room : length l.frames ≤ frame_room l.self + l.frame-index;
  number : l.number ≡ l.first + l.frame-index;
  frames : frames_in l.self
      ≡ frames_in l.fn.self ++ record_places l.first (staged_entries (take l.frame-index l.frames));
  keys : l.self.keys ≡ l.fn.self.keys;
}
