-- The names in a folder.
use Rattle.std.specs.Prelude.{◌≡◌, ℕ, ◌<◌, ◌&&◌, ◌||◌, Bool, true, false, List, [], ◌∷◌, length, Option, Some, None, IsTrue}
use Rattle.std.specs.List.{list_any}
use Rattle.std.specs.declared.cmp.Ordering.{Ordering}
use Rattle.std.specs.Ordering.{ordering_then, bool_cmp}
use mathlib.Core.Bool.{beq}
use Rattle.rel_path.specs.Paths.{Path, name_eq, name_cmp, strip, is_component}
use Rattle.rel_path.specs.Files.{FileMap, has}
use Rattle.tree_dev.specs.declared.entries.Entry.{Entry}

-- the name that a path below a folder begins with, and whether more follows
abbrev pub first_of : Option Path → Option Entry
first_of None = None
first_of (Some []) = None
first_of (Some (name ∷ [])) = Some (record { name = name; folder = false })
first_of (Some (name ∷ more ∷ rest)) = Some (record { name = name; folder = true })

-- the entry that a folder has by a path
abbrev pub entry_of : Path → Path → Option Entry
entry_of folder path = first_of (strip folder path)

-- by name, and a file before a folder of its name
abbrev pub entry_cmp : Entry → Entry → Ordering
entry_cmp a b = ordering_then (name_cmp a.name b.name) (bool_cmp a.folder b.folder)

abbrev pub same_entry : Entry → Entry → Bool
same_entry a b = name_eq a.name b.name && beq a.folder b.folder

-- the entry is one of these
abbrev pub lists : List Entry → Entry → Bool
lists names entry = list_any (λ other. same_entry other entry) names

-- These are the names in a folder: all those that the files give it, and none but those that the files, or
-- the paths that may change, give it.
pub record NamesIn (files : FileMap) (held : Path → Bool) (folder : Path) (names : List Entry) : Type 0 where
  pub all : (path : Path) (entry : Entry) → entry_of folder path ≡ Some entry → has files path ≡ true → lists names entry ≡ true
  pub only : (entry : Entry) → lists names entry ≡ true → (path : Path) × (entry_of folder path ≡ Some entry) × ((has files path || held path) ≡ true)

-- the name is a component, and a folder in a folder stands within the reach
pub record IsProper (reach : ℕ) (folder : Path) (entry : Entry) : Type 0 where
  pub named : IsTrue (is_component entry.name)
  pub shallow : entry.folder ≡ true → length folder < reach
