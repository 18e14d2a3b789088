-- Places in ascending order, and what is among them.
use Rattle.std.specs.Prelude.{◌≡◌, ◌<◌, ◌≤◌, ◌==◌, ℕ, Bool, true, false, List}
use Rattle.std.specs.Ordering.{nat_cmp}
use Rattle.std.specs.List.{list_any}
use Rattle.std.specs.List.Sorted.{IsStrictlySortedBy}

-- the place is one of these
abbrev pub has : List ℕ → ℕ → Bool
has places j = list_any (λ d. d == j) places

-- each place stands below those after it
abbrev pub Ascend : List ℕ → Type 0
Ascend places = IsStrictlySortedBy nat_cmp places

-- no place below this one passes
abbrev pub HasNoneBelow : (ℕ → Bool) → ℕ → Type 0
HasNoneBelow passes place = (j : ℕ) → j < place → passes j ≡ false

-- of the places below this one that pass, it is the last
abbrev pub IsLastBelow : (ℕ → Bool) → ℕ → ℕ → Type 0
IsLastBelow passes place last = (last < place) × (passes last ≡ true) × ((j : ℕ) → j < place → passes j ≡ true → j ≤ last)
