use Rattle.std.proofs.Common.{◌≡◌, drop}
use Rattle.rel_path.specs.Files.{file_at}
use Rattle.run_laws_tests.proofs.program.bytes_at.Given as goal

abbrev pub invariant-loop-file : goal.invariant-loop-file
invariant-loop-file l = file_at l.files l.path ≡ file_at (drop l.file-index l.files) l.path
