use Rattle.std.proofs.Common.{◌≡◌, take}
use Rattle.workspaces.specs.Lists.{places}
use Rattle.filters.specs.Selection.{is_in_core}
use Rattle.filters.proofs.cores.core_places.Given as goal

abbrev pub invariant-loop-p : goal.invariant-loop-p
invariant-loop-p l = l.found ≡ places (is_in_core l.core) (take l.p l.packages.packages)
