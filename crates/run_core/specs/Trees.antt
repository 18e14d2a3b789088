-- Complete binary trees of flags.
use Rattle.std.specs.Prelude.{◌≡◌, ℕ, ◌+◌, ◌*◌, ◌^◌, ◌<◌, ◌≤◌, Bool, false, ◌||◌, List, length, slice_index_or}

abbrev pub flag : List Bool → ℕ → Bool
flag flags i = slice_index_or flags i false

-- node i is set where one of its children is
abbrev pub IsRight : List Bool → ℕ → Type 0
IsRight flags i = flag flags i ≡ (flag flags (2 * i) || flag flags (2 * i + 1))

-- all nodes that have children
abbrev pub AreRight : List Bool → Type 0
AreRight flags = (i : ℕ) → 1 ≤ i → 2 * i < length flags → IsRight flags i

abbrev pub IsPower : ℕ → Type 0
IsPower n = (height : ℕ) × (n ≡ 2 ^ height)
