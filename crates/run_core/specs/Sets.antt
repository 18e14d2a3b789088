-- A set of numbers as the list of flags, a number each.
use Rattle.std.specs.Prelude.{◌≡◌, ℕ, ◌<◌, Bool, true, false, List, slice_index_or}

abbrev pub has : List Bool → ℕ → Bool
has set p = slice_index_or set p false

-- it is in the set, and no lower number is
pub record IsLeast (set : List Bool) (p : ℕ) : Type 0 where
  pub member : has set p ≡ true
  pub lowest : (q : ℕ) → q < p → has set q ≡ false
