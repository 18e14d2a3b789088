-- A tree in memory, and lists of files, as it keeps them.
use Rattle.std.specs.Prelude.{ℕ, Bool, false, not, List, filter}
use Rattle.rel_path.specs.Files.{file_at}
use Rattle.rel_path.specs.Paths.{Path, path_eq}
use Rattle.tree_dev.specs.declared.memory.MemTree.{MemTree}
use Rattle.tree_dev.specs.Listing.{deepest}
use Rattle.tree_dev.specs.Tree.{TreeState}

-- what the tree holds: its files, of which none may change
abbrev pub state_of : MemTree → TreeState (Unit {0})
state_of tree = record {
  files = file_at tree.files;
  held = λ _. false;
  rest = tt;
  reach = deepest tree.files;
  faults = tree.faults;
}

-- whether the file stands at the path
abbrev pub is_at : Path → Path × List ℕ → Bool
is_at path file = path_eq file.0 path

abbrev pub is_elsewhere : Path → Path × List ℕ → Bool
is_elsewhere path file = not (is_at path file)

-- no file at the path
abbrev pub without : Path → List (Path × List ℕ) → List (Path × List ℕ)
without path files = filter (is_elsewhere path) files
