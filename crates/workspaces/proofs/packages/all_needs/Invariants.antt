use Rattle.std.proofs.Common.{◌≡◌, ◌++◌, map, drop}
use Rattle.workspaces.specs.Members.{needs_by}
use Rattle.workspaces.proofs.packages.all_needs.Given as goal

abbrev pub invariant-loop-member : goal.invariant-loop-member
invariant-loop-member l = l.needs.items ++ map (needs_by l.packages) (drop l.member-index l.packages) ≡ map (needs_by l.packages) l.packages
