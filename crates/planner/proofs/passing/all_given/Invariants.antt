use Rattle.std.proofs.Common.{◌≡◌, length}
use Rattle.planner.proofs.Handing.{AreGiven}
use Rattle.planner.proofs.passing.all_given.Given as goal

-- those of the tasks so far
abbrev pub invariant-loop-place : goal.invariant-loop-place
invariant-loop-place l = record {
  count : length l.lists ≡ l.place;
  so_far : AreGiven l.mode l.global l.env l.defs l.parts l.place l.lists;
}
