-- What a pool knows of a log.
use Rattle.std.specs.Prelude.{◌≡◌, ◌⊎◌, ◌<◌, ◌≤◌, ◌-◌, ℕ, min, List, length, take, map, get_or, vec_len, vec_capacity}
use Rattle.store_dev.specs.declared.device.StoreDevice.{Ghosts}
use Rattle.record_log.specs.declared.log.Log.{Log}
use Rattle.record_log.specs.Kinds.{Entry, blobs_in}
use Rattle.record_log.specs.Seats.{capped}
use Rattle.record_log.specs.Log.{frames_in, count_of, is_whole, room_of, probes_of, OnlyReadIn}
use Rattle.blob_pool.specs.declared.pool.Pool.{Pool}
use Rattle.blob_pool.specs.Contents.{places_from}

-- the numbers of the frames that have contents, and the digests in front of these
abbrev pub places_in : Pool → List ℕ
places_in pool = pool.places.items

abbrev pub digests_in : Pool → List (List ℕ)
digests_in pool = pool.index.digests

-- how many contents there are
abbrev pub count_in : Pool → ℕ
count_in pool = length pool.places.items

-- how many more it can learn with no memory taken
abbrev pub room_in : Pool → ℕ
room_in pool = min (vec_capacity pool.places - vec_len pool.places) pool.index.room

-- the same contents
pub record HoldsTheSame (old new : Pool) : Type 0 where
  pub places : places_in new ≡ places_in old
  pub digests : digests_in new ≡ digests_in old

-- the frames that a log knows, which are all of them while it is whole
abbrev pub known_in : {S : Type 0} {G : Ghosts S} → Log S G → List Entry
known_in log = take (count_of log) (frames_in log)

-- the contents of these frames, and no others
pub record IsPoolOf (pool : Pool) (fs : List Entry) : Type 0 where
  pub places : places_in pool ≡ places_from 0 fs
  pub digests : digests_in pool ≡ map (λ e. e.key) (blobs_in fs)

-- of the first so many of these frames
abbrev pub KnowsFirst : Pool → List Entry → ℕ → Type 0
KnowsFirst pool fs n = IsPoolOf pool (take n fs)

-- its places are below that number, and each has a digest
pub record StandsBelow (pool : Pool) (n : ℕ) : Type 0 where
  pub below : (i : ℕ) → i < count_in pool → get_or (places_in pool) i 0 < n
  pub even : length (digests_in pool) ≡ length (places_in pool)

-- The pool of a log. What is said of places and digests holds also where the device tells no bytes.
pub record Knows {S : Type 0} {G : Ghosts S} (pool : Pool) (log : Log S G) : Type 0 where
  pub told : G.tells → IsPoolOf pool (known_in log)
  pub below : (i : ℕ) → i < count_in pool → get_or (places_in pool) i 0 < count_of log
  pub even : length (digests_in pool) ≡ length (places_in pool)

-- what a call that only reads leaves of a log
pub record OnlyReadsLog {S : Type 0} {G : Ghosts S} (old new : Log S G) : Type 0 where
  pub device : OnlyReadIn old new
  pub whole : is_whole new ≡ is_whole old
  pub count : count_of new ≡ count_of old
  pub room : room_of new ≡ room_of old
  pub probes : probes_of old ≤ probes_of new

-- nothing was read, or one range
abbrev pub ReadsAtMostOnce : {S : Type 0} {G : Ghosts S} → Log S G → Log S G → Type 0
ReadsAtMostOnce old new =
    (probes_of new ≡ probes_of old) ⊎ (probes_of new ≡ capped (probes_of old) 1)
