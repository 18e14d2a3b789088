use Rattle.std.proofs.Common.{◌≡◌}
use Rattle.sample_repository.specs.Repository.{files_of_first}
use Rattle.sample_repository.proofs.files.sample_files.Given as goal

abbrev pub invariant-loop-number : goal.invariant-loop-number
invariant-loop-number l = l.files ≡ files_of_first l.n l.number
