-- What the calls of a relay leave that put pairs.
use Rattle.std.specs.Prelude.{◌≡◌, List, ◌++◌, Result, IfErr, OnOk}
use Rattle.rel_path.specs.Causes.{Counts}
use Rattle.store_dev.specs.declared.device.StoreDevice.{Ghosts}
use Rattle.cache_api.specs.declared.error.CacheErr.{CacheErr}
use Rattle.cache_api.specs.Cache.{HitsStay, Keeps, is_fault, IsFindErr}
use Rattle.cache_api.specs.Moments.{Leaves}
use Rattle.cache_api.specs.Pairs.{Pair, IsFirstPart}
use Rattle.relay_store.specs.declared.relay.Relay.{Relay}
use Rattle.relay_store.specs.Relays.{state_of, stands, shows, later_of, moment_of, left_of, says}

-- A call, or calls, that put these pairs, none to all of them, and all where the answer is Ok.
-- What a store has behind its first pairs only grows.
pub record IsPutting {S R T : Type 0} {G : Ghosts S} {H : Ghosts R} (old new : Relay S R G H)
    (added : List Pair) (result : Result T CacheErr) : Type 0 where
  pub pairs : G.tells × H.tells
      → OnOk result ((state_of new).pairs ≡ (state_of old).pairs ++ added)
  pub grown : G.tells × H.tells → (more : List Pair) × (later_of new ≡ later_of old ++ more)
  pub left : G.tells × H.tells → Leaves moment_of left_of old new
      (λ image. IsFirstPart (state_of old).pairs added (says (state_of old).base image))
  pub hits : HitsStay (G.tells × H.tells) stands shows old new
  pub keeps : Keeps (state_of old) (state_of new)
  pub whole : OnOk result ((state_of new).whole ≡ (state_of old).whole)
  pub answers : IfErr result IsFindErr
  pub cause : Counts is_fault (state_of old).faults (state_of new).faults result
