use Rattle.std.proofs.Common.{◌≡◌, ◌++◌, drop}
use Rattle.run_laws.specs.Clean.{seen}
use Rattle.run_laws_tests.specs.Books.{files_of}
use Rattle.run_laws_tests.proofs.program.files_of.Given as goal

abbrev pub invariant-loop-write : goal.invariant-loop-write
invariant-loop-write l =
    l.files ++ files_of (seen l.listing l.place l.outcomes) (drop l.write-index l.writes) ≡ files_of (seen l.listing l.place l.outcomes) l.writes
