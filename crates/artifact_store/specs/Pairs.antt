-- What the bytes of a store stand for.
use Rattle.std.specs.Prelude.{◌≡◌, ◌-◌, ℕ, List, if◌then◌else◌, ◌==◌, Option, Some, None, Ok, Err}
use Rattle.cache_api.specs.Pairs.{Pair}
use Rattle.record_log.specs.Kinds.{generation_of}
use Rattle.rel_path.specs.Limits.{store_limit}
use Rattle.record_log.specs.Frames.{reading, frames_of, ends}
use Rattle.pair_frames.specs.Pairs as frames
pub use Rattle.pair_frames.specs.Pairs.{pairs_in}

-- what bytes stand for: the pairs of a store, or nothing where they are no store
unfoldable pub stands_for : List ℕ → Option (List Pair)
stands_for bytes =
    elim (reading bytes) [ Ok es ↦ Some (frames.pairs_in es) | Err _ ↦ None ]

-- the same for bytes of that generation, and nothing for those of another
unfoldable pub told_as : ℕ → List ℕ → Option (List Pair)
told_as generation bytes =
    if generation_of (frames_of bytes) == generation then stands_for bytes else None

-- what a crash at some moment since that one may have left of a device, by what it stands for
abbrev pub LeftOf : {D : Type 0} → (D → ℕ → List ℕ → Type 0) → D → ℕ → Option (List Pair) → Type 0
LeftOf since device m left = (c : List ℕ) × since device m c × (left ≡ stands_for c)

-- what one of these images stands for
abbrev pub IsOneOf : (List ℕ → Type 0) → Option (List Pair) → Type 0
IsOneOf images left = (d : List ℕ) × images d × (left ≡ stands_for d)

-- how many bytes more a store of these bytes may take
abbrev pub free_in : List ℕ → ℕ
free_in bytes = store_limit - ends (frames_of bytes)
