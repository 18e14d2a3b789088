use Rattle.std.proofs.Common.{length}
use Rattle.workspaces.specs.Reach.{AreBelow}
use Rattle.repository_cases.proofs.graph_section.selected.Given as goal

abbrev pub invariant-loop-p : goal.invariant-loop-p
invariant-loop-p l = AreBelow (length l.packages.packages) l.places
