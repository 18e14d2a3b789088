use Rattle.std.proofs.Common.{◌≡◌, length, []}
use Rattle.task_inputs.specs.Facts.{AreNear}
use Rattle.task_inputs.proofs.files.empty_rows.Given as goal

-- the rows so far are empty
abbrev pub invariant-loop-row : goal.invariant-loop-row
invariant-loop-row l = record {
  count : length l.rows.items ≡ l._row;
  near : AreNear [] l.rows.items;
}
