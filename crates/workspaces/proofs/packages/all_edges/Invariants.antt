use Rattle.std.proofs.Common.{◌≡◌, ◌++◌, map, drop}
use Rattle.workspaces.specs.Members.{edges_of}
use Rattle.workspaces.proofs.packages.all_edges.Given as goal

abbrev pub invariant-loop-member : goal.invariant-loop-member
invariant-loop-member l = l.rows.items ++ map (edges_of l.packages) (drop l.member-index l.packages) ≡ map (edges_of l.packages) l.packages
