use Rattle.std.proofs.Common.{◌≡◌, take, false}
use Rattle.std.specs.List.{list_any}
use Rattle.filters.specs.Selection.{has_name}
use Rattle.filters.proofs.cores.has_package.Given as goal

-- none so far
abbrev pub invariant-loop-p : goal.invariant-loop-p
invariant-loop-p l = list_any (has_name l.name) (take l.p l.packages.packages) ≡ false
