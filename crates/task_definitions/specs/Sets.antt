-- Sets of names.
use Rattle.std.specs.Prelude.{◌≡◌, ◌||◌, ℕ, Bool, List}
use Rattle.std.specs.BTreeSet.{BTreeSet, contains}
use Rattle.rel_path.specs.Paths.{name_cmp}

-- the set has the names that pass the test, and no other
abbrev pub HasThose : (List ℕ → Bool) → BTreeSet (List ℕ) → Type 0
HasThose test set = (name : List ℕ) → contains name_cmp set name ≡ test name

-- the set has the names that it had, and those
abbrev pub Gains : (List ℕ → Bool) → BTreeSet (List ℕ) → BTreeSet (List ℕ) → Type 0
Gains added old new = (name : List ℕ) → contains name_cmp new name ≡ (contains name_cmp old name || added name)
