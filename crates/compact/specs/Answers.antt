-- When two stores are answered what.
use Rattle.std.specs.Prelude.{◌≡◌, ◌⊎◌, ◌<◌, ◌≤◌, ◌^◌, ◌-◌, ℕ, Bool, true, false, MatchBool, List}
use Rattle.std.specs.Prelude.{Option, Some, None, Result, Ok, Err}
use Rattle.rel_path.specs.Causes.{Rose}
use Rattle.cache_api.specs.declared.error.CacheErr.{CacheErr}
use Rattle.cache_api.specs.declared.error.CacheErr.TheVariants as cache
use Rattle.record_log.specs.declared.error.LogErr.{LogErr}
use Rattle.record_log.specs.declared.error.LogErr.TheVariants as log
use Rattle.record_log.specs.Frames.{reading, IsSound}
use Rattle.artifact_store.specs.declared.error.OpenErr.{OpenErr}
use Rattle.artifact_store.specs.declared.error.OpenErr.TheVariants as opening
use Rattle.artifact_store.specs.Answers.{IsFaultOf}
use Rattle.compact.specs.declared.error.CurrentErr.{CurrentErr}
use Rattle.compact.specs.declared.error.CurrentErr.TheVariants as two
use Rattle.compact.specs.declared.error.CompactErr.{CompactErr}
use Rattle.compact.specs.declared.error.CompactErr.TheVariants.{From, To, NoRoom, LastGeneration}
use Rattle.compact.specs.declared.error.CompactErr.TheVariants.{Failed, OutOfMemory}
use Rattle.compact.specs.declared.kept.Kept.{Kept}
use Rattle.compact.specs.Room.{Lack}

-- an opening is refused for what the bytes are
abbrev pub IsStoreFault : OpenErr → Type 0
IsStoreFault opening.NotAStore = Unit {0}
IsStoreFault (opening.Damaged at) = Unit {0}
IsStoreFault opening.Failed = ⊥
IsStoreFault opening.OutOfMemory = ⊥

-- ---- counts of faults of two devices

-- the counts of two devices over one call that failed only where one of them rose
abbrev pub BothCounted : {T E : Type 0} → (E → Bool) → ℕ → ℕ → ℕ → ℕ → Result T E → Type 0
BothCounted is_fault a now_a b now_b (Ok _) = (now_a ≡ a) × (now_b ≡ b)
BothCounted is_fault a now_a b now_b (Err e) =
    MatchBool (is_fault e) (Rose a now_a ⊎ Rose b now_b) ((now_a ≡ a) × (now_b ≡ b))

-- they never fall
pub record CountsBoth {T E : Type 0} (is_fault : E → Bool) (a now_a b now_b : ℕ)
    (result : Result T E) : Type 0 where
  pub first : a ≤ now_a
  pub second : b ≤ now_b
  pub counted : BothCounted is_fault a now_a b now_b result

-- ---- which of two stores is current

abbrev pub is_current_fault : CurrentErr → Bool
is_current_fault two.Failed = true
is_current_fault _ = false

abbrev pub as_first : OpenErr → CurrentErr
as_first opening.NotAStore = two.First opening.NotAStore
as_first (opening.Damaged at) = two.First (opening.Damaged at)
as_first opening.Failed = two.Failed
as_first opening.OutOfMemory = two.OutOfMemory

abbrev pub as_spare : OpenErr → CurrentErr
as_spare opening.NotAStore = two.Spare opening.NotAStore
as_spare (opening.Damaged at) = two.Spare (opening.Damaged at)
as_spare opening.Failed = two.Failed
as_spare opening.OutOfMemory = two.OutOfMemory

-- of either store only what its bytes are is told
abbrev pub IsCurrentErr : CurrentErr → Type 0
IsCurrentErr (two.First fault) = IsStoreFault fault
IsCurrentErr (two.Spare fault) = IsStoreFault fault
IsCurrentErr _ = Unit {0}

-- the first store is refused as the reading of its bytes says, and the spare only behind one
-- that is sound
abbrev pub IsFirstFault : CurrentErr → List ℕ → Type 0
IsFirstFault (two.First fault) bytes = IsFaultOf fault (reading bytes)
IsFirstFault (two.Spare fault) bytes = IsSound bytes
IsFirstFault _ bytes = Unit {0}

abbrev pub IsSpareFault : CurrentErr → List ℕ → Type 0
IsSpareFault (two.Spare fault) bytes = IsFaultOf fault (reading bytes)
IsSpareFault _ bytes = Unit {0}

-- ---- compaction

abbrev pub is_fault : CompactErr → Bool
is_fault Failed = true
is_fault _ = false

-- a cache's error; it is never full
abbrev pub of_cache : CacheErr → CompactErr
of_cache cache.Failed = Failed
of_cache _ = OutOfMemory

-- a log's error behind its opening
abbrev pub of_log : LogErr → CompactErr
of_log (log.Full need free) = NoRoom need free
of_log log.Failed = Failed
of_log _ = OutOfMemory

abbrev pub as_from : OpenErr → CompactErr
as_from opening.NotAStore = From opening.NotAStore
as_from (opening.Damaged at) = From (opening.Damaged at)
as_from opening.Failed = Failed
as_from opening.OutOfMemory = OutOfMemory

abbrev pub as_to : OpenErr → CompactErr
as_to opening.NotAStore = To opening.NotAStore
as_to (opening.Damaged at) = To (opening.Damaged at)
as_to opening.Failed = Failed
as_to opening.OutOfMemory = OutOfMemory

-- of either store only what its bytes are is told
abbrev pub IsCompactErr : CompactErr → Type 0
IsCompactErr (From fault) = IsStoreFault fault
IsCompactErr (To fault) = IsStoreFault fault
IsCompactErr _ = Unit {0}

-- the store that is read is not refused
abbrev pub IsNotFrom : CompactErr → Type 0
IsNotFrom (From fault) = ⊥
IsNotFrom _ = Unit {0}

-- the store that is written is not refused
abbrev pub IsNotTo : CompactErr → Type 0
IsNotTo (To fault) = ⊥
IsNotTo _ = Unit {0}

-- the last number of a `u64`
abbrev pub last_generation : ℕ
last_generation = 2 ^ 64 - 1

-- `LastGeneration` comes exactly behind the last one
abbrev pub IsLastWhere : Result Kept CompactErr → ℕ → Type 0
IsLastWhere (Ok _) generation = generation < last_generation
IsLastWhere (Err LastGeneration) generation = generation ≡ last_generation
IsLastWhere (Err (NoRoom need free)) generation = generation < last_generation
IsLastWhere (Err _) generation = Unit {0}

-- `NoRoom` comes exactly where room is lacking, and tells what lacks it first
abbrev pub IsNoRoomWhere : {T : Type 0} → Result T CompactErr → Option Lack → Type 0
IsNoRoomWhere (Ok _) lack = lack ≡ None
IsNoRoomWhere (Err (NoRoom n f)) lack = lack ≡ Some (record { need = n; free = f })
IsNoRoomWhere (Err _) lack = Unit {0}
