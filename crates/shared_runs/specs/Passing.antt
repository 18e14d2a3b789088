-- A store in the device of a turn, and the file behind the turn.
use Rattle.std.specs.Prelude.{◌≡◌, ℕ, ◌≤◌, true, List, length, Ok, IsTrue}
use Rattle.store_dev.specs.Device.{Only}
use Rattle.store_dev.specs.declared.device.StoreDevice.{Ghosts as DeviceGhosts}
use Rattle.record_log.specs.Frames.{reading, frames_of, IsSound}
use Rattle.artifact_store.specs.declared.store.Store.{Store}
use Rattle.artifact_store.specs.Store as store
use Rattle.shared_runs.specs.declared.turn.Shared.{Ghosts}
use Rattle.shared_runs.specs.Frames.{HoldsOn, HoldsFirst}
use Rattle.shared_runs.specs.Turns.{GoesOn}

-- The device of a turn that is held: where it is told and the file was sound, a crash since the
-- turn was taken leaves the frames with which the turn began, and maybe more behind them.
pub record IsInTurn {H D : Type 0} (G : Ghosts H D) (K : DeviceGhosts D) (file : H) (device : D)
    : Type 0 where
  pub held : (G.turn file).held ≡ true
  pub count : (G.turn file).count ≤ K.store_faults device
  pub counted : (G.turn file).count ≤ G.store_faults file
  pub start : K.tells → (G.turn file).start ≤ K.moment device
  pub kept : K.tells → IsSound (G.content file) → (c : List ℕ)
      → K.images_since device (G.turn file).start c → HoldsOn (frames_of (G.content file)) c

-- The store with which a turn begins: where the file was sound, it has the frames that were to
-- come, and a crash since the turn was taken leaves these.
pub record BeginsTurn {H D : Type 0} (G : Ghosts H D) (K : DeviceGhosts D) (old new : H)
    (s : Store D K) : Type 0 where
  pub turn : IsInTurn G K new (store.device_of s)
  pub fresh : (G.turn new).count ≡ K.store_faults (store.device_of s)
  pub whole : IsTrue (store.state_of s).whole
  pub frames : K.tells → IsSound (G.content old) → store.frames_of s ≡ G.coming old
  pub read : K.tells → IsSound (G.content old) → reading (G.content new) ≡ Ok (G.coming old)
  pub durable : K.tells → IsSound (G.content old) → Only (G.content new) (G.images new)
  pub left : K.tells → IsSound (G.content old) → (c : List ℕ)
      → K.images_since (store.device_of s) (G.turn new).start c → reading c ≡ Ok (G.coming old)

-- What a turn leaves of a sound file of which a crash leaves but what it holds: it holds its frames
-- and maybe the first of those that were to come, and so do all images since the turn was asked
-- for.
pub record LeavesFirst {H D : Type 0} (G : Ghosts H D) (old new : H) : Type 0 where
  pub file : HoldsFirst (length (frames_of (G.content old))) (G.coming old) (G.content new)
  pub goes : GoesOn G.moment G.images_since old new
      (HoldsFirst (length (frames_of (G.content old))) (G.coming old))
