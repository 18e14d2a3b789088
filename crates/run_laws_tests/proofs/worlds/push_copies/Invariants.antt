use Rattle.std.proofs.Common.{◌≡◌, ◌++◌, drop}
use Rattle.run_laws_tests.proofs.worlds.push_copies.Given as goal

abbrev pub invariant-loop-file : goal.invariant-loop-file
invariant-loop-file l = l.to ++ drop l.file-index l.files ≡ l.initial.to ++ l.files
