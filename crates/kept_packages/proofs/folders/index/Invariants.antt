use Rattle.kept_packages.proofs.Indexing.{Indexes}
use Rattle.kept_packages.proofs.folders.index.Given as goal

-- the packages so far
abbrev pub invariant-loop-p : goal.invariant-loop-p
invariant-loop-p l = Indexes l.packages l.p l.folders
