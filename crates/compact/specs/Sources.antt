-- The store that is read, and the one that is written, over calls.
use Rattle.std.specs.Prelude.{◌≡◌, ◌⊎◌, ◌++◌, ℕ, IsTrue, List, [], drop, Result, Ok, Err, Some}
use Rattle.rel_path.specs.Causes.{Counts}
use Rattle.store_dev.specs.Device.{LeavesOnly}
use Rattle.store_dev.specs.declared.device.StoreDevice.{Ghosts}
use Rattle.cache_api.specs.Pairs.{Pair}
use Rattle.record_log.specs.Kinds.{Entry}
use Rattle.record_log.specs.Frames.{frames_of}
use Rattle.record_log.specs.declared.error.Unopened.{Unopened}
use Rattle.artifact_store.specs.declared.store.Store.{Store}
use Rattle.artifact_store.specs.Store.{device_of, state_of}
use Rattle.compact.specs.declared.error.CompactErr.{CompactErr}
use Rattle.compact.specs.declared.error.CompactErr.TheVariants.{From, To, NoRoom, LastGeneration}
use Rattle.compact.specs.declared.error.CompactErr.TheVariants.{Failed, OutOfMemory}
use Rattle.compact.specs.Answers.{IsStoreFault, is_fault}
use Rattle.compact.specs.Room.{lacking}
use Rattle.compact.specs.Current.{generation_in, pairs_held}
use Rattle.compact.specs.Left.{IsStoreOf, ReadsAs}

-- some store of that generation
abbrev pub IsOfGeneration : ℕ → List ℕ → Type 0
IsOfGeneration generation bytes = (pairs : List Pair) × IsStoreOf generation pairs bytes

-- what calls leave of a store into which they put pairs
pub record PutsOn {S : Type 0} {G : Ghosts S} (old new : Store S G) : Type 0 where
  pub base : (state_of new).base ≡ (state_of old).base
  pub images : G.tells → LeavesOnly G.moment G.images_since (device_of old) (device_of new)
      (IsOfGeneration (state_of old).base)

-- ---- the store that is read, when it was opened

pub record IsSource {S : Type 0} {G : Ghosts S} (device : S) (store : Store S G) (generation : ℕ)
    : Type 0 where
  pub whole : IsTrue (state_of store).whole
  pub pairs : G.tells → (state_of store).pairs ≡ pairs_held (G.content device)
  pub base : G.tells → (state_of store).base ≡ generation_in (G.content device)
  pub told : G.tells → generation ≡ generation_in (G.content device)
  pub images : G.tells → LeavesOnly G.moment G.images_since device (device_of store)
      (ReadsAs (G.content device))
  pub faults : (state_of store).faults ≡ G.store_faults device

-- the errors of its opening
abbrev pub IsFromErr : CompactErr → Type 0
IsFromErr (From fault) = IsStoreFault fault
IsFromErr (To fault) = ⊥
IsFromErr (NoRoom need free) = ⊥
IsFromErr LastGeneration = ⊥
IsFromErr _ = Unit {0}

-- an error as a result
abbrev pub raised : CompactErr → Result (Unit {0}) CompactErr
raised e = Err e

-- the device that was not opened, and why
pub record IsNoSource {S : Type 0} (G : Ghosts S) (device : S) (unopened : Unopened S CompactErr)
    : Type 0 where
  pub images : G.tells → LeavesOnly G.moment G.images_since device unopened.store
      (ReadsAs (G.content device))
  pub cause : Counts is_fault (G.store_faults device) (G.store_faults unopened.store)
      (raised unopened.fault)

-- ---- the device that is handed on from step to step

-- as the step left it, whatever it answered
abbrev pub handed : {P E : Type 0} → Result P (Unopened P E) → P
handed (Ok device) = device
handed (Err unopened) = unopened.store

-- and what it answered
abbrev pub answered : {P E : Type 0} → Result P (Unopened P E) → Result (Unit {0}) E
answered (Ok device) = Ok tt
answered (Err unopened) = Err unopened.fault

-- the errors of putting pairs into it
abbrev pub IsFillErr : CompactErr → Type 0
IsFillErr (From fault) = ⊥
IsFillErr (To fault) = ⊥
IsFillErr LastGeneration = ⊥
IsFillErr _ = Unit {0}

-- the errors of clearing it
abbrev pub IsClearErr : CompactErr → Type 0
IsClearErr Failed = Unit {0}
IsClearErr OutOfMemory = Unit {0}
IsClearErr _ = ⊥

-- the errors of a step that writes it
abbrev pub IsToErr : CompactErr → Type 0
IsToErr (From fault) = ⊥
IsToErr (To fault) = IsStoreFault fault
IsToErr LastGeneration = ⊥
IsToErr _ = Unit {0}

-- of all three, and of the one before them
abbrev pub IsRenewErr : CompactErr → Type 0
IsRenewErr (From fault) = ⊥
IsRenewErr (To fault) = IsStoreFault fault
IsRenewErr _ = Unit {0}

-- ---- putting pairs in order

-- What lacks room for these pairs and any behind them, was put first or lacks it still.
abbrev pub IsPut : {T : Type 0} → Result T CompactErr → List Entry → List Pair → List Entry → Type 0
IsPut (Ok _) fs pairs gs = (generation : ℕ) (rest : List Pair)
    → lacking generation fs (pairs ++ rest) ≡ lacking generation gs rest
IsPut (Err (NoRoom n f)) fs pairs gs = (generation : ℕ) (rest : List Pair)
    → lacking generation fs (pairs ++ rest) ≡ Some (record { need = n; free = f })
IsPut (Err _) fs pairs gs = Unit {0}

-- the same where of these pairs so many were put
abbrev pub IsPutInPart : Result ℕ CompactErr → List Entry → List Pair → List Entry → Type 0
IsPutInPart (Ok taken) fs pairs gs = (generation : ℕ) (rest : List Pair)
    → lacking generation fs (pairs ++ rest) ≡ lacking generation gs (drop taken pairs ++ rest)
IsPutInPart (Err (NoRoom n f)) fs pairs gs = (generation : ℕ) (rest : List Pair)
    → lacking generation fs (pairs ++ rest) ≡ Some (record { need = n; free = f })
IsPutInPart (Err _) fs pairs gs = Unit {0}

-- the same of the frames of an empty store, where the device is handed on
abbrev pub IsStepPut : {P : Type 0} (G : Ghosts P) → Result P (Unopened P CompactErr) → List Pair
    → Type 0
IsStepPut G (Ok to) pairs = IsPut {T = Unit {0}} (Ok tt) [] pairs (frames_of (G.content to))
IsStepPut G (Err unopened) pairs = IsPut {T = Unit {0}} (Err unopened.fault) [] pairs []

-- ---- what a step leaves

-- the frames that there were, or a store of that generation with the pairs that there were
abbrev pub IsSealing : List ℕ → ℕ → List ℕ → Type 0
IsSealing bytes generation c = ReadsAs bytes c ⊎ IsStoreOf generation (pairs_held bytes) c

-- where compaction is refused, a crash leaves what has P
abbrev pub LeavesRefused : CompactErr → (List ℕ → Type 0) → (List ℕ → Type 0) → Type 0
LeavesRefused (NoRoom need free) images P = (c : List ℕ) → images c → P c
LeavesRefused LastGeneration images P = (c : List ℕ) → images c → P c
LeavesRefused _ images P = Unit {0}
