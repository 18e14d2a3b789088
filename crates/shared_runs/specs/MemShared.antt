-- A shared file in memory: what it holds, what a crash may leave of it, and who else puts what.
use Rattle.std.specs.Prelude.{◌≡◌, ℕ, ◌+◌, ◌-◌, ◌^◌, min, List, [], ◌∷◌, ◌++◌, length, get_or}
use Rattle.std.specs.Prelude.{if◌then◌else◌, Result, Ok, Err}
use Rattle.std.specs.List.{Contains}
use Rattle.store_dev.specs.declared.memory.MemStore.{MemStore}
use Rattle.store_dev.specs.MemStore as device
use Rattle.cache_api.specs.Pairs.{Pair}
use Rattle.record_log.specs.Kinds.{Entry}
use Rattle.shared_runs.specs.declared.memory.MemShared.{MemShared}
use Rattle.shared_runs.specs.History.{LeftSince, faults_among}
use Rattle.shared_runs.specs.Others.{pairs_of, frames_with}
use Rattle.shared_runs.specs.Turns.{Turn}

-- the bytes as a read gives them, or gave them as the turn was taken
abbrev pub bytes_of : MemShared → List ℕ
bytes_of m = device.bytes_of m.file

abbrev pub images_of : MemShared → List ℕ → Type 0
images_of m = device.images_of m.file

-- the devices that held the file, that of now the last
abbrev pub devices_of : MemShared → List MemStore
devices_of m = m.past.items ++ m.file ∷ []

-- the moments are counted by these
abbrev pub moment_of : MemShared → ℕ
moment_of m = length m.past.items

abbrev pub images_since_of : MemShared → ℕ → List ℕ → Type 0
images_since_of m = LeftSince (devices_of m)

-- its own faults and those of the devices
abbrev pub faults_of : MemShared → ℕ
faults_of m = m.faults + faults_among (devices_of m)

-- each device is made for its turn, so that it begins at its first moment and without a fault
abbrev pub turn_of : MemShared → Turn
turn_of m = record { held = m.held; began = m.began; start = 0; count = 0 }

-- the pairs that others put before the turn with that number
abbrev pub puts_at : MemShared → ℕ → List Pair
puts_at m number = pairs_of (get_or m.others.items number [])

-- the number of the next turn
abbrev pub next_turn : MemShared → ℕ
next_turn m = m.turns

-- the pairs that others put before the next turn, of which none come while it is held
abbrev pub pairs_coming : MemShared → List Pair
pairs_coming m = if m.held then [] else puts_at m (next_turn m)

abbrev pub coming_of : MemShared → List Entry
coming_of m = frames_with (bytes_of m) (pairs_coming m)

-- the next call of `take` or `give` fails
abbrev pub IsFailing : MemShared → Type 0
IsFailing m = Contains m.fails.items m.calls

-- a call is counted, and what others do stays as it was told
pub record IsCalled (old new : MemShared) : Type 0 where
  pub counted : new.calls ≡ min (old.calls + 1) (2 ^ 64 - 1)
  pub fails : new.fails.items ≡ old.fails.items
  pub others : new.others.items ≡ old.others.items

-- the turns that were taken are counted
abbrev pub next_after : {T E : Type 0} → Result T E → ℕ → ℕ
next_after (Ok _) turns = min (turns + 1) (2 ^ 64 - 1)
next_after (Err _) turns = turns
