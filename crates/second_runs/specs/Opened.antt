-- Stores that were opened, of which the local one may be missing.
use Rattle.std.specs.Prelude.{◌≡◌, ◌⊎◌, ℕ, List, Option, Some}
use Rattle.std.specs.List.Sorted.{IsPermutation}
use Rattle.store_dev.specs.Device.{LeavesOnly}
use Rattle.store_dev.specs.declared.device.StoreDevice.{Ghosts}
use Rattle.artifact_store.specs.declared.store.Store.{Store}
use Rattle.artifact_store.specs.Store.{device_of}
use Rattle.pair_reader.specs.declared.wanted.Lengths.{Lengths}
use Rattle.pair_reader.specs.declared.wanted.Lengths.TheVariants.{All, Only}
use Rattle.relay_store.specs.Stores.{state_in, moment_in, images_in}
use Rattle.run_plan.specs.declared.plan.Plan.{Plan}
use Rattle.run_plan.specs.KeyLengths.{key_lengths}
use Rattle.answers.specs.Moments.{Held}

-- the lengths are those of the plan's keys and no others
abbrev pub AreOfKeys : Plan → Lengths → Type 0
AreOfKeys plan All = ⊥
AreOfKeys plan (Only lens) = IsPermutation (key_lengths plan) lens.items

-- what it holds; one that is missing holds nothing
abbrev pub held_of : {S : Type 0} {G : Ghosts S} → Option (Store S G) → Held
held_of store = record { pairs = Some (state_in store).pairs; free = (state_in store).room }

-- the store is there, and that is its device
abbrev pub IsDeviceIn : {S : Type 0} {G : Ghosts S} → Option (Store S G) → S → Type 0
IsDeviceIn {S} {G} store device =
    (opened : Store S G) × (store ≡ Some opened) × (device ≡ device_of opened)

-- a store stayed as it was, or what a crash may have left of it since has P
abbrev pub StaysOr : {S : Type 0} {G : Ghosts S} → Option (Store S G) → Option (Store S G)
    → (List ℕ → Type 0) → Type 0
StaysOr old new P = (new ≡ old) ⊎ LeavesOnly moment_in images_in old new P
