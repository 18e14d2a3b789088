-- The pairs that compaction keeps.
use Rattle.std.specs.Prelude.{ℕ, ◌-◌, Bool, if◌then◌else◌, is_some, List, [], ◌∷◌, length, drop}
use Rattle.std.specs.Prelude.{filter, bytes_eq, Option, Some, None}
use Rattle.std.specs.List.{list_any}
use Rattle.cache_api.specs.Pairs.{Pair}
use Rattle.cache_api.specs.Reading.{artifact_in}

-- its value is an artifact
abbrev pub is_useful : Pair → Bool
is_useful pair = is_some (artifact_in pair.1)

-- one of these pairs has the key
abbrev pub has_key : List ℕ → List Pair → Bool
has_key key pairs = list_any (λ pair. bytes_eq pair.0 key) pairs

-- those whose key does not stand again later
abbrev pub lasts : List Pair → List Pair
lasts [] = []
lasts (pair ∷ pairs) = if has_key pair.0 pairs then lasts pairs else pair ∷ lasts pairs

-- the last n of them, or all
abbrev pub last_of : Option ℕ → List Pair → List Pair
last_of None pairs = pairs
last_of (Some n) pairs = drop (length pairs - n) pairs

-- Each pair is left out whose value is no artifact, then each whose key stands again later; of the
-- rest the last n are kept, or all.
unfoldable pub chosen : List Pair → Option ℕ → List Pair
chosen pairs keep = last_of keep (lasts (filter is_useful pairs))
