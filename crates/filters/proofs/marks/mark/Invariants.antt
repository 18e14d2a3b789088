use Rattle.std.proofs.Common.{◌≡◌, ℕ, take, cond}
use Rattle.workspaces.specs.Marks.{is_marked}
use Rattle.workspaces.specs.Reach.{is_in}
use Rattle.filters.proofs.marks.mark.Given as goal

abbrev pub invariant-loop-place : goal.invariant-loop-place
invariant-loop-place l = record {
  marks : (p : ℕ) → is_marked l.marks p ≡ cond (is_in (take l.place-index l.places) p) l.value (is_marked l.initial.marks p);
}
