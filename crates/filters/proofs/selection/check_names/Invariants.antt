use Rattle.std.proofs.Common.{◌≡◌, drop}
use Rattle.filters.specs.Selection.{first_missing}
use Rattle.filters.proofs.selection.check_names.Given as goal

-- no filter so far has a name that is missing
abbrev pub invariant-loop-filter : goal.invariant-loop-filter
invariant-loop-filter l = first_missing l.packages.packages l.filters ≡ first_missing l.packages.packages (drop l.filter-index l.filters)
