-- Which of two stores is current, and its pairs.
use Rattle.std.specs.Prelude.{◌≡◌, ℕ, if◌then◌else◌, nat_lt, List, Option}
use Rattle.cache_api.specs.Pairs.{Pair}
use Rattle.record_log.specs.Kinds.{generation_of}
use Rattle.record_log.specs.Frames.{frames_of}
use Rattle.pair_frames.specs.Pairs.{pairs_in}
use Rattle.artifact_store.specs.Pairs.{stands_for}
use Rattle.compact.specs.declared.side.Side.{Side}
use Rattle.compact.specs.declared.side.Side.TheVariants.{First, Spare}

-- the generation that bytes tell
abbrev pub generation_in : List ℕ → ℕ
generation_in bytes = generation_of (frames_of bytes)

-- the pairs for which their frames stand
abbrev pub pairs_held : List ℕ → List Pair
pairs_held bytes = pairs_in (frames_of bytes)

-- the side with the greater generation, and the first where they are equal
abbrev pub newer_of : ℕ → ℕ → Side
newer_of first spare = if nat_lt first spare then Spare else First

-- which of two stores is current
abbrev pub current_of : List ℕ → List ℕ → Side
current_of first spare = newer_of (generation_in first) (generation_in spare)

-- the one that stands on that side
abbrev pub on_side : Side → List ℕ → List ℕ → List ℕ
on_side First first spare = first
on_side Spare first spare = spare

-- what the current one stands for
abbrev pub pairs_of : List ℕ → List ℕ → Option (List Pair)
pairs_of first spare = stands_for (on_side (current_of first spare) first spare)

-- ---- two stores of which the first named stands on that side

-- it is current
abbrev pub IsCurrentOn : Side → List ℕ → List ℕ → Type 0
IsCurrentOn First from to = current_of from to ≡ First
IsCurrentOn Spare from to = current_of to from ≡ Spare

-- what the current one of the two stands for
abbrev pub pairs_by : Side → List ℕ → List ℕ → Option (List Pair)
pairs_by First from to = pairs_of from to
pairs_by Spare from to = pairs_of to from

-- on one side or the other it is current
abbrev pub IsCurrent : List ℕ → List ℕ → Type 0
IsCurrent from to = (side : Side) × IsCurrentOn side from to
