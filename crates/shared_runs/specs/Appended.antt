-- A device into which pairs were put.
use Rattle.std.specs.Prelude.{◌≡◌, ℕ, List, []}
use Rattle.store_dev.specs.Device.{LeavesOnly}
use Rattle.store_dev.specs.declared.device.StoreDevice.{Ghosts}
use Rattle.store_dev.specs.declared.memory.MemStore.{MemStore}
use Rattle.store_dev.specs.MemStore.{bytes_of, images_of, images_since_of, steps_of, faults_of}
use Rattle.cache_api.specs.Pairs.{Pair}
use Rattle.shared_runs.specs.Frames.{HoldsOneOrMore}
use Rattle.shared_runs.specs.Others.{frames_with}
use Rattle.shared_runs.specs.Turns.{IsTaken}

-- a device with these bytes, all synced, that was not called yet
pub record IsFresh (bytes : List ℕ) (d : MemStore) : Type 0 where
  pub bytes_are : bytes_of d ≡ bytes
  pub steps : steps_of d ≡ []
  pub faults : faults_of d ≡ 0

-- The device behind pairs that were put, where it was a store, each where there was room for it. It
-- began with all bytes synced.
pub record HasPairs {D : Type 0} (G : Ghosts D) (old : D) (pairs : List Pair) (new : D)
    : Type 0 where
  pub taken : IsTaken (G.content old) (frames_with (G.content old) pairs)
      (G.content new) (G.images new)
  pub left : LeavesOnly G.moment G.images_since old new (HoldsOneOrMore
      (λ b. b ≡ G.content old) (G.content old) (frames_with (G.content old) pairs))

-- the device that holds a file as a turn begins, where the file had these bytes and these pairs
-- came
pub record IsBegun (bytes : List ℕ) (pairs : List Pair) (d : MemStore) : Type 0 where
  pub taken : IsTaken bytes (frames_with bytes pairs) (bytes_of d) (images_of d)
  pub left : (c : List ℕ) → images_since_of d 0 c
      → HoldsOneOrMore (λ b. b ≡ bytes) bytes (frames_with bytes pairs) c
  pub faults : faults_of d ≡ 0
