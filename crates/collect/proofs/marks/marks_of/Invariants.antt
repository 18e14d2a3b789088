use Rattle.std.proofs.Common.{◌≡◌, ℕ, length, take}
use Rattle.std.specs.List.{list_any}
use Rattle.collect.specs.Steps.{marked, in_row}
use Rattle.collect.proofs.marks.marks_of.Given as goal

abbrev pub invariant-loop-row : goal.invariant-loop-row
invariant-loop-row l = record {
  len : length l.marks.items ≡ l.count;
  marked : (j : ℕ) → marked l.marks.items j ≡ list_any (in_row j) (take l.row-index l.rows);
}
