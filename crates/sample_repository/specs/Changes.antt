-- A change of a file: its first byte is another one.
use Rattle.std.specs.Prelude.{ℕ, List, [], ◌∷◌, map, if◌then◌else◌}
use Rattle.std.specs.Option.{option_map}
use Rattle.rel_path.specs.Paths.{Path, path_eq}
use Rattle.rel_path.specs.Files.{FileMap}

-- the first byte is this one; where there are no bytes, nothing changes
abbrev pub begun_with : ℕ → List ℕ → List ℕ
begun_with first [] = []
begun_with first (byte ∷ bytes) = first ∷ bytes

-- the file, whose first byte is this one if it stands at the path
abbrev pub file_with : Path → ℕ → Path × List ℕ → Path × List ℕ
file_with path first file =
    (file.0, (if path_eq file.0 path then begun_with first file.1 else file.1))

abbrev pub files_with : Path → ℕ → List (Path × List ℕ) → List (Path × List ℕ)
files_with path first files = map (file_with path first) files

-- the same of what stands at each path
abbrev pub changed_at : Path → ℕ → FileMap → FileMap
changed_at path first files = λ other.
    if path_eq other path then option_map (begun_with first) (files other) else files other
