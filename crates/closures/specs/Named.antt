-- Marks on files, by their paths.
use Rattle.std.specs.Prelude.{ℕ, Bool, List, map}
use Rattle.rel_path.specs.Paths.{Path}

-- for each file whether its path passes
abbrev pub marks_of : (Path → Bool) → List (Path × List ℕ) → List Bool
marks_of passes files = map (λ f. passes f.0) files
