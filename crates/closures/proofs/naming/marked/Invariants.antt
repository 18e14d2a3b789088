use Rattle.std.proofs.Common.{◌≡◌, ◌++◌, Bool, filter, drop}
use Rattle.rel_path.specs.Paths.{Path}
use Rattle.closures.specs.Named.{marks_of}
use Rattle.closures.proofs.naming.marked.Given as goal

abbrev pub invariant-loop-place : goal.invariant-loop-place
invariant-loop-place l = (passes : Path → Bool) → l.marks ≡ marks_of passes l.files → l.found.items ++ filter (λ f. passes f.0) (drop l.place l.files) ≡ filter (λ f. passes f.0) l.files
