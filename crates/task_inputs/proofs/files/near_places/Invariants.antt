use Rattle.std.proofs.Common.{◌≡◌, length, take}
use Rattle.task_inputs.specs.Facts.{AreNear}
use Rattle.task_inputs.proofs.files.near_places.Given as goal

-- the rows of the files so far
abbrev pub invariant-loop-place : goal.invariant-loop-place
invariant-loop-place l = record {
  count : length l.rows.items ≡ l.count;
  near : AreNear (take l.place l.files) l.rows.items;
}
