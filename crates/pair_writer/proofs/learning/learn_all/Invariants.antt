use Rattle.std.proofs.Common.{◌≡◌, ◌+◌, ◌≤◌, length, take, drop}
use Rattle.blob_pool.specs.Contents.{contents_of}
use Rattle.blob_pool.specs.Known.{room_in}
use Rattle.pair_writer.specs.Held.{staged_entries}
use Rattle.pair_writer.specs.Learning.{GoesOn}
use Rattle.pair_writer.proofs.learning.learn_all.Given as goal

-- the frames so far, and room for the others
abbrev pub invariant-loop-frame : goal.invariant-loop-frame
invariant-loop-frame l = record {
  number : l.number ≡ l.fn.first + l.frame-index;
  pool : GoesOn l.fn.first (staged_entries (take l.frame-index l.frames)) l.fn.pool l.pool;
  room : length (contents_of (staged_entries (drop l.frame-index l.frames))) ≤ room_in l.pool;
}
