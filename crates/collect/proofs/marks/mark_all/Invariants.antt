use Rattle.std.proofs.Common.{◌≡◌, ◌||◌, ℕ, length, take}
use Rattle.collect.specs.Steps.{marked, in_row}
use Rattle.collect.proofs.marks.mark_all.Given as goal

abbrev pub invariant-loop-place : goal.invariant-loop-place
invariant-loop-place l = record {
  len : length l.marks.items ≡ length l.initial.marks.items;
  marked : (j : ℕ) → marked l.marks.items j ≡ (in_row j (take l.place-index l.places) || marked l.initial.marks.items j);
}
