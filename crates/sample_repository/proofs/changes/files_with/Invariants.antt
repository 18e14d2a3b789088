use Rattle.std.proofs.Common.{◌≡◌, map, take}
use Rattle.sample_repository.specs.Changes.{file_with}
use Rattle.sample_repository.proofs.changes.files_with.Given as goal

abbrev pub invariant-loop-file : goal.invariant-loop-file
invariant-loop-file l = l.changed ≡ map (file_with l.path l.first) (take l.file-index l.file-items)
