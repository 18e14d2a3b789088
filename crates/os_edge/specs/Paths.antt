-- Paths, names and files of the system.
use Rattle.std.specs.Prelude.{ℕ, ◌≤◌, List, [], ◌∷◌, length, IsTrue, codes}
use Rattle.std.specs.List.{join_with_byte}
use Rattle.rel_path.specs.Paths.{Path, is_component}
use Rattle.tree_dev.specs.declared.entries.Entry.{Entry}
use Rattle.tree_dev.specs.declared.tree.Found.{Found}
use Rattle.tree_dev.specs.declared.tree.Found.TheVariants.{Absent, TooLong, Here}

-- the path from the current folder: its components with a slash between each two, and `.` for the root
abbrev pub system_path_of : Path → List ℕ
system_path_of [] = codes "."
system_path_of (name ∷ names) = join_with_byte 47 (name ∷ names)

-- the name is a component
abbrev pub IsNamed : Entry → Type 0
IsNamed entry = IsTrue (is_component entry.name)

-- at most so many bytes, where some are found
abbrev pub IsWithin : ℕ → Found → Type 0
IsWithin limit Absent = Unit {0}
IsWithin limit TooLong = Unit {0}
IsWithin limit (Here bytes) = length bytes ≤ limit
