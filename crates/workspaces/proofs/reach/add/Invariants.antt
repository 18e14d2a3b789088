use Rattle.std.proofs.Common.{take}
use Rattle.workspaces.specs.Marks.{Adds}
use Rattle.workspaces.proofs.reach.add.Given as goal

abbrev pub invariant-loop-place : goal.invariant-loop-place
invariant-loop-place l = Adds (take l.place-index l.places) l.initial.front.reached.items l.initial.front.waiting.items l.front.reached.items l.front.waiting.items
