use Rattle.std.proofs.Common.{take}
use Rattle.workspaces.specs.Steps.{AddsEdges}
use Rattle.workspaces.proofs.edge_lists.add_edges.Given as goal

-- those of the pairs so far were added
abbrev pub invariant-loop-pair : goal.invariant-loop-pair
invariant-loop-pair l = AddsEdges l.packages l.own l.manifest (take l.pair-index l.pair-items) l.initial.found.items l.found.items
