-- The room that compaction needs.
use Rattle.std.specs.Prelude.{ℕ, ◌-◌, ◌≤◌, if◌then◌else◌, nat_le, List, [], ◌∷◌, ◌++◌, Option}
use Rattle.std.specs.Prelude.{Some, None}
use Rattle.std.specs.Int.{w64, to_le_bytes}
use Rattle.rel_path.specs.Limits.{store_limit}
use Rattle.cache_api.specs.Memory.{capped}
use Rattle.cache_api.specs.Pairs.{Pair}
use Rattle.record_log.specs.declared.kind.TheConstants.{GENERATION}
use Rattle.record_log.specs.Kinds.{Entry, entry, room_for}
use Rattle.record_log.specs.Frames.{ends}
use Rattle.pair_frames.specs.Puts.{put_frames, put_size}

-- the frame that tells a generation
abbrev pub generation_frame : ℕ → Entry
generation_frame generation = entry GENERATION (to_le_bytes w64 generation) []

-- the room of a store in which these frames stand: how many bytes more it may take
abbrev pub free_behind : List Entry → ℕ
free_behind fs = store_limit - ends fs

-- what is needed where less is free, 2^64 - 1 where that is more
pub record Lack : Type 0 where
  pub need : ℕ
  pub free : ℕ

abbrev pub lack : ℕ → ℕ → Lack
lack need free = record { need = capped need; free = free }

-- Pairs are put behind these frames, one after another, and then the generation: what lacks room
-- for the first of them that does not fit.
abbrev pub lacking : ℕ → List Entry → List Pair → Option Lack
lacking generation fs [] =
    if nat_le (room_for (generation_frame generation)) (free_behind fs) then None
    else Some (lack (room_for (generation_frame generation)) (free_behind fs))
lacking generation fs (pair ∷ pairs) =
    if nat_le (put_size fs pair) (free_behind fs)
    then lacking generation (fs ++ put_frames fs pair) pairs
    else Some (lack (put_size fs pair) (free_behind fs))

-- for each of these pairs there is room, one after another
abbrev pub AllFit : ℕ → List Entry → List Pair → Type 0
AllFit room fs [] = Unit {0}
AllFit room fs (pair ∷ pairs) =
    (put_size fs pair ≤ room) × AllFit (room - put_size fs pair) (fs ++ put_frames fs pair) pairs
