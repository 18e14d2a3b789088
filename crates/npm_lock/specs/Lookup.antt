-- Where npm looks for a package (Node.js docs, "Loading from node_modules folders"), and what it finds among the locations of a lockfile.
use Rattle.std.specs.Prelude.{ℕ, zero, suc, ◌==◌, ◌||◌, List, [], ◌∷◌, ◌++◌, length, take, slice_index, map, filter, Bool, not, Option, Some, None, is_some, option_and_then, if◌then◌else◌, bytes_eq, codes}
use Rattle.std.specs.Option.{option_map, option_or}
use Rattle.std.specs.List.{ends_with}
use Rattle.std.specs.Prelude.{nat_eq}
use Rattle.rel_path.specs.Paths.{name_eq}
use Rattle.lock_entries.specs.declared.entry.Entry.{Entry}
use Rattle.npm_lock.specs.declared.lookup.TheConstants.{SLASH}

-- where a folder holds the package of this name
abbrev pub place_in : List ℕ → List ℕ → List ℕ
place_in name [] = codes "node_modules/" ++ name
place_in name (c ∷ cs) = (c ∷ cs) ++ (codes "/node_modules/" ++ name)

-- the folder is itself called node_modules
abbrev pub is_modules : List ℕ → Bool
is_modules folder = bytes_eq folder (codes "node_modules") || ends_with nat_eq folder (codes "/node_modules")

-- the folders above that end at a slash before the byte n, the nearest first, and then the root
abbrev pub above : List ℕ → ℕ → List (List ℕ)
above from zero = [] ∷ []
above from (suc n) = if slice_index from n == SLASH then take n from ∷ above from n else above from n

abbrev pub above_without_modules : List ℕ → ℕ → List (List ℕ)
above_without_modules from n = filter (λ folder. not (is_modules folder)) (above from n)

-- the folders that are looked in: the location itself, and those above it that are not called node_modules
abbrev pub folders : List ℕ → List (List ℕ)
folders from = from ∷ above_without_modules from (length from)

-- the places where a name is looked for, in order
abbrev pub places : List ℕ → List ℕ → List (List ℕ)
places from name = map (place_in name) (folders from)

-- the number of a location
abbrev pub number_of : List Entry → List ℕ → Option ℕ
number_of [] location = None
number_of (e ∷ es) location = if name_eq e.location location then Some 0 else option_map suc (number_of es location)

-- the lockfile has the location
abbrev pub has : List Entry → List ℕ → Bool
has entries location = is_some (number_of entries location)

-- the first that passes
abbrev pub first : (List ℕ → Bool) → List (List ℕ) → Option (List ℕ)
first test [] = None
first test (x ∷ xs) = if test x then Some x else first test xs

-- the location that a name finds from a location: the first place that the lockfile has
unfoldable pub found : List Entry → List ℕ → List ℕ → Option (List ℕ)
found entries from name = first (has entries) (places from name)

-- its number
unfoldable pub found_number : List Entry → List ℕ → List ℕ → Option ℕ
found_number entries from name = option_and_then (number_of entries) (found entries from name)

-- the number of the first place that the lockfile has
abbrev pub first_number : List Entry → List (List ℕ) → Option ℕ
first_number entries [] = None
first_number entries (place ∷ others) = option_or (number_of entries place) (first_number entries others)
