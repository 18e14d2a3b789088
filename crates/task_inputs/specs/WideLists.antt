-- What the globs of the root in lists of inputs match of the walked files.
use Rattle.std.specs.Prelude.{◌≡◌, ℕ, Bool, false, List, [], Option, Some, None}
use Rattle.std.specs.List.{slice_get, AllByRecursion}
use Rattle.std.specs.Cmp.Lexicographic.{pointwise}
use Rattle.rel_path.specs.Paths.{Path, name_eq}
use Rattle.workspaces.specs.Lists.{places}
use Rattle.input_entries.specs.declared.entries.InputList.{InputList}
use Rattle.task_inputs.specs.declared.wide.Wide.{Wide}
use Rattle.input_entries.specs.Entries.{entries_of, any_wide}

-- a glob of the root in the list matches the path
abbrev pub wide_by : Option InputList → Path → Bool
wide_by None path = false
wide_by (Some list) path = any_wide list.globs.items path

-- the list has these inputs
abbrev pub has_inputs : List (List ℕ) → Wide → Bool
has_inputs inputs w = pointwise name_eq w.inputs inputs

-- by each list stand the places of the walked files that one of its globs of the root matches
abbrev pub AreWide : List Path → List Wide → Type 0
AreWide walk lists = AllByRecursion (λ w. w.places.items ≡ places (any_wide (entries_of w.inputs)) walk) lists

-- the places of a list that may be there
abbrev pub places_of : Option Wide → List ℕ
places_of None = []
places_of (Some w) = w.places.items

-- the places that stand by the list of this number; no number stands for no places
abbrev pub places_by : List Wide → Option ℕ → List ℕ
places_by lists None = []
places_by lists (Some number) = places_of (slice_get lists number)
