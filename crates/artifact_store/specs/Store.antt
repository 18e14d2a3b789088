-- A store as its contracts see it.
use Rattle.std.specs.Prelude.{◌≡◌, ℕ, List, length}
use Rattle.store_dev.specs.declared.device.StoreDevice.{Ghosts}
use Rattle.cache_api.specs.declared.hit.Hit.{Hit}
use Rattle.cache_api.specs.declared.puts.Put.{Put}
use Rattle.cache_api.specs.Artifacts.{Artifact}
use Rattle.cache_api.specs.Pairs.{Pair}
use Rattle.cache_api.specs.Cache.{CacheState}
use Rattle.cache_api.specs.Moments.{Moment}
use Rattle.record_log.specs.Kinds.{Entry}
use Rattle.record_log.specs.Frames.{text_of}
use Rattle.record_log.specs.Log as log
use Rattle.blob_pool.specs.Known.{OnlyReadsLog}
use Rattle.pair_frames.specs.Pairs.{pairs_in}
use Rattle.artifact_reader.specs.Parts.{shown_in}
use Rattle.pair_reader.specs.declared.wanted.Lengths.{Lengths}
use Rattle.pair_reader.specs.Answers.{HitIsWithin}
use Rattle.pair_index.specs.declared.seen.SeenPairs.{SeenPairs}
use Rattle.artifact_store.specs.declared.store.Store.{Store}
use Rattle.pair_index.specs.Costs as costs
use Rattle.pair_index.specs.Index.{frames_in, lengths_in}
use Rattle.artifact_store.specs.Outcomes.{outcomes}

abbrev pub device_of : {S : Type 0} {G : Ghosts S} → Store S G → S
device_of store = log.device_of store.log

-- the frames that count, where the device tells its bytes
abbrev pub frames_of : {S : Type 0} {G : Ghosts S} → Store S G → List Entry
frames_of store = log.frames_in store.log

-- whose keys' fingerprints are kept
abbrev pub lengths_of : {S : Type 0} {G : Ghosts S} → Store S G → Lengths
lengths_of store = lengths_in store.index

-- how many pairs there are
abbrev pub count_in : {S : Type 0} {G : Ghosts S} → Store S G → ℕ
count_in store = length (frames_in store.index)

-- What it is as a cache: the pairs of its frames, which all last; whether it may be used, how much room it has, all of it
-- for sure, how often it failed and how often it was read as its log; and the generation with which it was opened.
abbrev pub state_of : {S : Type 0} {G : Ghosts S} → Store S G → CacheState ℕ
state_of {G = G} store = record {
  pairs = pairs_in (log.frames_in store.log);
  lasting = length (pairs_in (log.frames_in store.log));
  whole = log.is_whole store.log;
  room = log.room_of store.log;
  sure = log.room_of store.log;
  faults = G.store_faults (log.device_of store.log);
  probes = log.probes_of store.log;
  base = store.generation;
}

abbrev pub moment_of : {S : Type 0} {G : Ghosts S} → Store S G → Moment
moment_of {G = G} store = record { first = G.moment (log.device_of store.log); second = 0 }

-- what a crash since a moment may have left: an image of its device
abbrev pub left_of : {S : Type 0} {G : Ghosts S} → Store S G → Moment → List ℕ → Type 0
left_of {G = G} store m image = G.images_since (log.device_of store.log) m.first image

-- ---- hits

-- its places stand in the text of the frames
abbrev pub stands : {S : Type 0} {G : Ghosts S} → Store S G → Hit → Type 0
stands {G = G} store hit = G.tells → HitIsWithin (text_of (log.frames_in store.log)) hit

-- the artifact that they show
abbrev pub shows : {S : Type 0} {G : Ghosts S} → Store S G → Hit → Artifact
shows store hit = shown_in (text_of (log.frames_in store.log)) hit

-- ---- look-ups and puts

-- how often it may be read to look up a key, and then what was found
abbrev pub cost_of : {S : Type 0} {G : Ghosts S} → Store S G → List ℕ → ℕ
cost_of store key = costs.cost_of (lengths_in store.index) (log.frames_in store.log) key

-- to look it up alone
abbrev pub reads_of : {S : Type 0} {G : Ghosts S} → Store S G → List ℕ → ℕ
reads_of store key = costs.reads_of (lengths_in store.index) (log.frames_in store.log) key

-- the same for a look-up that sees some of the pairs alone
abbrev pub cost_seen : {S : Type 0} {G : Ghosts S} → Store S G → SeenPairs → List ℕ → ℕ
cost_seen store seen key =
    costs.cost_seen seen (lengths_in store.index) (log.frames_in store.log) key

abbrev pub reads_seen : {S : Type 0} {G : Ghosts S} → Store S G → SeenPairs → List ℕ → ℕ
reads_seen store seen key =
    costs.reads_seen seen (lengths_in store.index) (log.frames_in store.log) key

-- for which of these pairs there is room, one after another
abbrev pub stores : {S : Type 0} {G : Ghosts S} → Store S G → List Pair → List Put
stores store pairs = outcomes (log.room_of store.log) (log.frames_in store.log) pairs

-- what a call that only reads leaves of a store
pub record OnlyReadsStore {S : Type 0} {G : Ghosts S} (old new : Store S G) : Type 0 where
  pub log : OnlyReadsLog old.log new.log
  pub index : new.index ≡ old.index
  pub generation : new.generation ≡ old.generation
