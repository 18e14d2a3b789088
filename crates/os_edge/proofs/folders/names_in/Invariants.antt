use Rattle.std.specs.List.{All}
use Rattle.os_edge.specs.Paths.{IsNamed}
use Rattle.os_edge.proofs.folders.names_in.Given as goal

abbrev pub invariant-loop-item : goal.invariant-loop-item
invariant-loop-item g l = All IsNamed l.names.items
