use Rattle.std.proofs.Common.{take}
use Rattle.workspaces.specs.Marks.{Adds}
use Rattle.kept_packages.proofs.front.add.Given as goal

-- those so far were marked
abbrev pub invariant-loop-owner : goal.invariant-loop-owner
invariant-loop-owner l = Adds (take l.owner-index l.owners) l.initial.front.marks.items l.initial.front.waiting l.front.marks.items l.front.waiting
