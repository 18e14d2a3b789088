-- A lockfile cut to some packages (npm docs, "package-lock.json"): the top keys stay, and of `packages` the root's entry, the entries of some folders, the links that lead to them, and some further locations.
use Rattle.std.specs.Prelude.{ℕ, ◌==◌, ◌||◌, List, length, Bool, false, Option, Some, None, option_and_then, unwrap_or, if◌then◌else◌, codes}
use Rattle.std.specs.List.{list_any}
use Rattle.serde_json.specs.Data.{Data, null, boolean, number, string, array, object, Members, no_members, member}
use Rattle.serde_json.specs.Find.{get, as_bool, as_str}
use Rattle.rel_path.specs.Paths.{name_eq}

-- the text is one of these
abbrev pub is_in : List (List ℕ) → List ℕ → Bool
is_in texts text = list_any (name_eq text) texts

-- the folder that an entry leads to, if it is a link
abbrev pub folder_if : Bool → Option Data → Option (List ℕ)
folder_if link resolved = if link then option_and_then as_str resolved else None

unfoldable pub folder_of : Data → Option (List ℕ)
folder_of d = folder_if (unwrap_or (option_and_then as_bool (get (codes "link") d)) false) (get (codes "resolved") d)

abbrev pub passes : (List ℕ → Bool) → Option (List ℕ) → Bool
passes test None = false
passes test (Some text) = test text

-- the entry at a location stays: the root's, that of one of the folders, a link to one, or one of the locations
abbrev pub keeps : (List ℕ → Bool) → (List ℕ → Bool) → List ℕ → Data → Bool
keeps folders locations location d = length location == 0 || folders location || passes folders (folder_of d) || locations location

abbrev pub with_member : List ℕ → Option Data → Members → Members
with_member name None ms = ms
with_member name (Some d) ms = member name d ms

-- the members, each changed or left out
abbrev pub picked : (List ℕ → Data → Option Data) → Members → Members
picked pick no_members = no_members
picked pick (member name d ms) = with_member name (pick name d) (picked pick ms)

abbrev pub cut_entry : (List ℕ → Bool) → (List ℕ → Bool) → List ℕ → Data → Option Data
cut_entry folders locations location d = if keeps folders locations location d then Some d else None

-- the members of an object, picked
abbrev pub picked_in : (List ℕ → Data → Option Data) → Data → Data
picked_in pick null = null
picked_in pick (boolean b) = boolean b
picked_in pick (number n) = number n
picked_in pick (string s) = string s
picked_in pick (array ds) = array ds
picked_in pick (object ms) = object (picked pick ms)

abbrev pub cut_top : (List ℕ → Bool) → (List ℕ → Bool) → List ℕ → Data → Option Data
cut_top folders locations name d = Some (if name_eq name (codes "packages") then picked_in (cut_entry folders locations) d else d)

-- the lockfile's value without the other entries
unfoldable pub cut : List (List ℕ) → List (List ℕ) → Data → Data
cut folders locations d = picked_in (cut_top (is_in folders) (is_in locations)) d
