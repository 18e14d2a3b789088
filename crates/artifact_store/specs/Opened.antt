-- What the opening of a device as a store answers.
use Rattle.std.specs.Prelude.{◌≡◌, ◌<◌, Some, IsTrue, length}
use Rattle.rel_path.specs.Causes.{Counts}
use Rattle.store_dev.specs.Device.{LeavesOnly, OnlyReads}
use Rattle.store_dev.specs.declared.device.StoreDevice.{Ghosts}
use Rattle.record_log.specs.Kinds.{generation_of}
use Rattle.record_log.specs.Frames.{reading, IsOpenedAs, ReadsAsOneOf}
use Rattle.record_log.specs.Log.{OnlyReadIn, device_of as log_device}
use Rattle.record_log.specs.declared.log.Log.{Log}
use Rattle.record_log.specs.declared.error.Unopened.{Unopened}
use Rattle.pair_reader.specs.declared.wanted.Lengths.{Lengths}
use Rattle.artifact_store.specs.declared.error.OpenErr.{OpenErr}
use Rattle.artifact_store.specs.declared.store.Store.{Store}
use Rattle.artifact_store.specs.Answers.{IsFaultOf, IsIndexErr, is_fault, raised}
use Rattle.artifact_store.specs.Pairs.{stands_for, LeftOf, IsOneOf}
use Rattle.artifact_store.specs.Store.{device_of, frames_of, lengths_of, state_of}

-- The store that was opened in a device, where keys of these lengths are foreseen. Each image since
-- the opening began has the frames that one of the images had as it began, and stands for what that
-- one stood for; so it is where the device was not opened.
pub record IsOpened {S : Type 0} {G : Ghosts S} (device : S) (lengths : Lengths)
    (store : Store S G) : Type 0 where
  pub pairs : G.tells → stands_for (G.content device) ≡ Some (state_of store).pairs
  pub opened : G.tells → IsOpenedAs (G.content device) (G.content (device_of store))
  pub whole : IsTrue (state_of store).whole
  pub generation : G.tells → (state_of store).base ≡ generation_of (frames_of store)
  pub foresees : lengths_of store ≡ lengths
  pub images : G.tells → LeavesOnly G.moment G.images_since device (device_of store)
      (ReadsAsOneOf (G.images device))
  pub left : G.tells → LeavesOnly G.moment (LeftOf G.images_since) device (device_of store)
      (IsOneOf (G.images device))
  pub cause : (state_of store).faults ≡ G.store_faults device

-- the device that was not opened, and why
pub record IsUnopened {S : Type 0} (G : Ghosts S) (device : S)
    (unopened : Unopened S OpenErr) : Type 0 where
  pub fault : G.tells → IsFaultOf unopened.fault (reading (G.content device))
  pub same : G.tells → 9 < length (G.content device)
      → G.content unopened.store ≡ G.content device
  pub images : G.tells → LeavesOnly G.moment G.images_since device unopened.store
      (ReadsAsOneOf (G.images device))
  pub left : G.tells → LeavesOnly G.moment (LeftOf G.images_since) device unopened.store
      (IsOneOf (G.images device))
  pub cause : Counts is_fault (G.store_faults device) (G.store_faults unopened.store)
      (raised unopened.fault)

-- ---- behind the opening of the log

-- the store of a log that was read, where keys of these lengths are foreseen
pub record IsStoreOf {S : Type 0} {G : Ghosts S} (log : Log S G) (lengths : Lengths)
    (store : Store S G) : Type 0 where
  pub reads : OnlyReadIn log store.log
  pub whole : IsTrue (state_of store).whole
  pub generation : G.tells → (state_of store).base ≡ generation_of (frames_of store)
  pub foresees : lengths_of store ≡ lengths
  pub cause : (state_of store).faults ≡ G.store_faults (log_device log)

-- the device of a log that was not read, and why
pub record IsUnread {S : Type 0} {G : Ghosts S} (log : Log S G)
    (unopened : Unopened S OpenErr) : Type 0 where
  pub reads : OnlyReads G.content G.images G.moment G.images_since (log_device log)
      unopened.store
  pub answers : IsIndexErr unopened.fault
  pub cause : Counts is_fault (G.store_faults (log_device log)) (G.store_faults unopened.store)
      (raised unopened.fault)
