-- Numbers of a JSON value that are not whole or need more than 64 bits: `serde_json` holds them as floats.
use Rattle.std.specs.Prelude.{ℕ, ◌+◌, List, [], ◌∷◌, ◌++◌, Option, if◌then◌else◌, decimal}
use Rattle.serde_json.specs.Data.{Data, null, boolean, number, string, array, object, Items, no_items, item, Members, no_members, member}
use Rattle.serde_json.specs.Find.{is_float}
use Rattle.json_view.specs.Pointer.{pointer_to}
use Rattle.lock_entries.specs.Least.{least_by}

-- the pointers to the floats of a value that stands at a pointer; an item of an array is reached by its number
abbrev mutual
  pub floats : List ℕ → Data → List (List ℕ)
  floats at null = []
  floats at (boolean b) = []
  floats at (number n) = if is_float n then at ∷ [] else []
  floats at (string s) = []
  floats at (array ds) = item_floats at 0 ds
  floats at (object ms) = member_floats at ms

  pub item_floats : List ℕ → ℕ → Items → List (List ℕ)
  item_floats at n no_items = []
  item_floats at n (item d ds) = floats (pointer_to at (decimal n)) d ++ item_floats at (n + 1) ds

  pub member_floats : List ℕ → Members → List (List ℕ)
  member_floats at no_members = []
  member_floats at (member name d ms) = floats (pointer_to at name) d ++ member_floats at ms

-- the least pointer to a float
unfoldable pub least_float : Data → Option (List ℕ)
least_float d = least_by (λ pointer. pointer) (floats [] d)
