-- Files: what stands at each path. A list of paths with bytes stands for such files.
use Rattle.std.specs.Prelude.{◌≡◌, ◌≢◌, ℕ, Bool, List, [], ◌∷◌, Option, Some, None, is_some, if◌then◌else◌}
use Rattle.rel_path.specs.Paths.{Path, path_eq, is_among}

-- the bytes at each path, if there are any
abbrev pub FileMap : Type 0
FileMap = Path → Option (List ℕ)

-- the files of a list; of a path that stands in it twice the first counts
abbrev pub file_at : List (Path × List ℕ) → FileMap
file_at [] path = None
file_at (f ∷ fs) path = if path_eq f.0 path then Some f.1 else file_at fs path

-- a file stands at the path
abbrev pub has : FileMap → Path → Bool
has files path = is_some (files path)

-- every other path is as before
abbrev pub SameBut : Path → FileMap → FileMap → Type 0
SameBut path old new = (other : Path) → other ≢ path → new other ≡ old other

-- the files at these paths alone
abbrev pub only_at : List Path → FileMap → FileMap
only_at paths files = λ path. if is_among paths path then files path else None

-- the second files over the first
abbrev pub over : FileMap → FileMap → FileMap
over below above = λ path. if is_some (above path) then above path else below path
