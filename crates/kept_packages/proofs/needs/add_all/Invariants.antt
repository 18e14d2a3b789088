use Rattle.kept_packages.specs.Needs.{Gains}
use Rattle.kept_packages.proofs.Needing.{IsBefore}
use Rattle.kept_packages.proofs.needs.add_all.Given as goal

-- the packages so far
abbrev pub invariant-loop-p : goal.invariant-loop-p
invariant-loop-p l = Gains l.packages (IsBefore l.packages l.p) l.initial.found.items l.found.items
