use Rattle.std.proofs.Common.{◌≡◌, ◌≤◌, ◌-◌, ℕ, false, length}
use Rattle.collect.specs.Steps.{marked}
use Rattle.collect.proofs.marks.no_marks.Given as goal

abbrev pub invariant-loop-marks : goal.invariant-loop-marks
invariant-loop-marks l = record {
  len : length l.marks.items ≤ l.count;
  none : (j : ℕ) → marked l.marks.items j ≡ false;
}

abbrev pub decreases-loop-marks : goal.decreases-loop-marks
decreases-loop-marks l = l.count - length l.marks.items
