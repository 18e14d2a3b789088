-- A store that may be missing, as its callers see it: one that is missing has no pairs and is
-- whole.
use Rattle.std.specs.Prelude.{ℕ, true, List, [], Option, Some, None}
use Rattle.store_dev.specs.declared.device.StoreDevice.{Ghosts}
use Rattle.cache_api.specs.declared.hit.Hit.{Hit}
use Rattle.cache_api.specs.declared.puts.Put.{Put}
use Rattle.cache_api.specs.Artifacts.{Artifact}
use Rattle.cache_api.specs.Cache.{CacheState}
use Rattle.cache_api.specs.Pairs.{Pair}
use Rattle.record_log.specs.Kinds.{Entry}
use Rattle.artifact_store.specs.declared.store.Store.{Store}
use Rattle.artifact_store.specs.Store as store

-- that of a store that is missing
abbrev pub no_state : CacheState ℕ
no_state = record {
  pairs = [];
  lasting = 0;
  whole = true;
  room = 0;
  sure = 0;
  faults = 0;
  probes = 0;
  base = 0;
}

abbrev pub state_in : {S : Type 0} {G : Ghosts S} → Option (Store S G) → CacheState ℕ
state_in None = no_state
state_in (Some s) = store.state_of s

abbrev pub frames_in : {S : Type 0} {G : Ghosts S} → Option (Store S G) → List Entry
frames_in None = []
frames_in (Some s) = store.frames_of s

-- how often it may be read to look up a key, and then what was found
abbrev pub cost_in : {S : Type 0} {G : Ghosts S} → Option (Store S G) → List ℕ → ℕ
cost_in None key = 0
cost_in (Some s) key = store.cost_of s key

-- ---- what a crash leaves of its device

abbrev pub moment_in : {S : Type 0} {G : Ghosts S} → Option (Store S G) → ℕ
moment_in None = 0
moment_in {G = G} (Some s) = G.moment (store.device_of s)

abbrev pub images_in : {S : Type 0} {G : Ghosts S} → Option (Store S G) → ℕ → List ℕ → Type 0
images_in None m image = ⊥
images_in {G = G} (Some s) m image = G.images_since (store.device_of s) m image

-- ---- hits

abbrev pub stands_in : {S : Type 0} {G : Ghosts S} → Option (Store S G) → Hit → Type 0
stands_in None hit = ⊥
stands_in (Some s) hit = store.stands s hit

abbrev pub shows_in : {S : Type 0} {G : Ghosts S} → Option (Store S G) → Hit → Artifact
shows_in None hit = ([], [])
shows_in (Some s) hit = store.shows s hit

-- ---- puts

-- for which of these pairs there is room, one after another
abbrev pub stores_in : {S : Type 0} {G : Ghosts S} → Option (Store S G) → List Pair → List Put
stores_in None pairs = []
stores_in (Some s) pairs = store.stores s pairs
