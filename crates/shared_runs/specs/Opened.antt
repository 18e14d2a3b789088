-- What the opening of a shared file answers.
use Rattle.std.specs.Prelude.{◌≡◌, ℕ, false, List, IsTrue}
use Rattle.rel_path.specs.Causes.{Counts}
use Rattle.store_dev.specs.declared.device.StoreDevice.{Ghosts as DeviceGhosts}
use Rattle.record_log.specs.Frames.{reading, IsSound}
use Rattle.record_log.specs.declared.error.Unopened.{Unopened}
use Rattle.pair_frames.specs.Pairs.{pairs_in}
use Rattle.artifact_store.specs.declared.error.OpenErr.{OpenErr}
use Rattle.artifact_store.specs.Answers.{IsFaultOf, is_fault, raised}
use Rattle.shared_runs.specs.declared.store.SharedStore.{SharedStore}
use Rattle.shared_runs.specs.declared.turn.Shared.{Ghosts}
use Rattle.shared_runs.specs.Frames.{HoldsOneOrMore}
use Rattle.shared_runs.specs.Shared.{frames_in, state_of}
use Rattle.shared_runs.specs.Steps.{Enters}
use Rattle.shared_runs.specs.Turns.{GoesOn}

-- Each image since the opening began is read as one of those that the file had then, or holds its
-- frames with the first of those that were to come. So each is sound where each was.
pub record LeavesImages {H D : Type 0} (G : Ghosts H D) (old new : H) : Type 0 where
  pub goes : GoesOn G.moment G.images_since old new
      (HoldsOneOrMore (G.images old) (G.content old) (G.coming old))
  pub sound : ((c : List ℕ) → G.images old c → IsSound c)
      → (c : List ℕ) → G.images_since new (G.moment old) c → IsSound c

-- The file was a store, whose frames are those that were to come, and its pairs are those of the
-- run.
pub record IsOpened {H D : Type 0} (G : Ghosts H D) (K : DeviceGhosts D) (file : H)
    (s : SharedStore H D G K) : Type 0 where
  pub sound : K.tells → IsSound (G.content file)
  pub frames : K.tells → frames_in s ≡ G.coming file
  pub pairs : K.tells → (state_of s).pairs ≡ pairs_in (G.coming file)
  pub base : (told : K.tells) → (state_of s).base told ≡ pairs_in (G.coming file)
  pub whole : IsTrue (state_of s).whole
  pub probes : (state_of s).probes ≡ 0
  pub cause : (state_of s).faults ≡ G.store_faults file
  pub images : K.tells → LeavesImages G file s.turns.shared
  pub steps : K.tells → Enters (pairs_in (G.coming file)) s

-- the file that was not opened, and why
pub record IsUnopened {H D : Type 0} (G : Ghosts H D) (K : DeviceGhosts D) (file : H)
    (unopened : Unopened H OpenErr) : Type 0 where
  pub turn : (G.turn unopened.store).held ≡ false
  pub fault : K.tells → IsFaultOf unopened.fault (reading (G.content file))
  pub images : K.tells → LeavesImages G file unopened.store
  pub cause : Counts is_fault (G.store_faults file) (G.store_faults unopened.store)
      (raised unopened.fault)
