use Rattle.std.proofs.Common.{take}
use Rattle.filters.specs.Sides.{AreSides}
use Rattle.filters.proofs.selection.sides_of.Given as goal

abbrev pub invariant-loop-filter : goal.invariant-loop-filter
invariant-loop-filter l = AreSides l.packages.packages (take l.filter-index l.filters) l.sides
