-- A device in memory: what it holds, what a crash may leave of it, and which of its calls fail.
use Rattle.std.specs.Prelude.{◌≡◌, ◌↔◌, ℕ, ◌+◌, ◌-◌, ◌^◌, min, List, length, Result, IsErrOf}
use Rattle.std.specs.List.{Contains}
use Rattle.store_dev.specs.declared.device.StoreErr.{StoreErr}
use Rattle.store_dev.specs.declared.device.StoreErr.TheVariants.{Failed}
use Rattle.store_dev.specs.declared.memory.MemStore.{MemStore}
use Rattle.store_dev.specs.declared.step.Step.{Step}
use Rattle.store_dev.specs.Memory.{origin, ImagesFrom, SinceFrom}

-- the bytes as a read gives them
abbrev pub bytes_of : MemStore → List ℕ
bytes_of m = m.bytes.items

-- the writes and syncs so far, and the bytes before the first of them
abbrev pub steps_of : MemStore → List Step
steps_of m = m.steps.items

abbrev pub start_of : MemStore → List ℕ
start_of m = origin m.bytes.items m.first.items m.steps.items

-- what a crash may leave now, and since a moment, the moments being counted by steps
abbrev pub images_of : MemStore → List ℕ → Type 0
images_of m = ImagesFrom (start_of m) (steps_of m)

abbrev pub images_since_of : MemStore → ℕ → List ℕ → Type 0
images_since_of m = SinceFrom (start_of m) (steps_of m)

abbrev pub moment_of : MemStore → ℕ
moment_of m = length (steps_of m)

abbrev pub faults_of : MemStore → ℕ
faults_of m = m.faults

-- the numbers of the calls that fail, and that of the next call
abbrev pub failing : MemStore → List ℕ
failing m = m.fails.items

abbrev pub next_call : MemStore → ℕ
next_call m = m.calls

-- the next call fails
abbrev pub IsFailing : MemStore → Type 0
IsFailing m = Contains (failing m) (next_call m)

-- one call was made
pub record IsCalled (old new : MemStore) : Type 0 where
  pub counted : next_call new ≡ min (next_call old + 1) (2 ^ 64 - 1)
  pub told : failing new ≡ failing old

-- it holds what it held
pub record HoldsTheSame (old new : MemStore) : Type 0 where
  pub bytes : bytes_of new ≡ bytes_of old
  pub start : start_of new ≡ start_of old
  pub steps : steps_of new ≡ steps_of old

-- A call fails exactly where its number is one of those that fail. It is counted, and where it fails nothing else
-- changes but the count of faults.
pub record FailsAsTold {T : Type 0} (old new : MemStore) (result : Result T StoreErr) : Type 0 where
  pub fails : IsErrOf result Failed ↔ IsFailing old
  pub called : IsCalled old new
  pub same : IsErrOf result Failed → HoldsTheSame old new
