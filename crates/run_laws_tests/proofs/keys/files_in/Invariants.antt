use Rattle.std.proofs.Common.{◌≡◌, ◌++◌, drop, filter}
use Rattle.run_laws.specs.Closures.{names}
use Rattle.run_laws_tests.proofs.keys.files_in.Given as goal

abbrev pub invariant-loop-file : goal.invariant-loop-file
invariant-loop-file l = l.kept ++ filter (λ f. names l.parts f.0) (drop l.file-index l.files) ≡ filter (λ f. names l.parts f.0) l.files
