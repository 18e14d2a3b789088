-- The names that a list of files gives a folder.
use Rattle.std.specs.Prelude.{◌≡◌, ℕ, max, Bool, false, List, [], ◌∷◌, length, Option, Some, None}
use Rattle.std.specs.List.{list_any}
use Rattle.rel_path.specs.Paths.{Path}
use Rattle.tree_dev.specs.declared.entries.Entry.{Entry}
use Rattle.tree_dev.specs.Names.{entry_of, same_entry, lists}

-- the most components that a path of them has
abbrev pub deepest : List (Path × List ℕ) → ℕ
deepest [] = 0
deepest (file ∷ files) = max (length file.0) (deepest files)

abbrev pub is_this : Entry → Option Entry → Bool
is_this entry None = false
is_this entry (Some other) = same_entry other entry

-- these are exactly the entries that the paths give the folder
abbrev pub Gives : List (Path × List ℕ) → Path → List Entry → Type 0
Gives files folder names = (entry : Entry) → lists names entry ≡ list_any (λ file. is_this entry (entry_of folder file.0)) files
