-- What the files of a pruned repository say.
use Rattle.std.specs.Prelude.{◌≤◌, ℕ, List, length, IfSome, Ok}
use Rattle.rel_path.specs.Files.{FileMap}
use Rattle.rel_path.specs.Limits.{file_limit}
use Rattle.repository.specs.Reading.{Contents, Means}
use Rattle.pruned_files.specs.Pruned.{Pruning, IsPruning, pruned_files, pruned_contents}

-- Of files that make a repository, those that a pruning leaves make the repository of the packages that stay, where the cut lockfile is within the limit of a file.
abbrev pub ReadingLaw : Type 0
ReadingLaw = (files : FileMap) (contents : Contents) (targets : List (List ℕ)) (p : Pruning)
    → Means files (Ok contents) → IsPruning contents targets p → IfSome p.text (λ text. length text ≤ file_limit)
    → Means (pruned_files p files) (Ok (pruned_contents contents p))
