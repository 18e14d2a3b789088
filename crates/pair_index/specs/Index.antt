-- Which pair stands in which frame, and where a key is to be sought.
use Rattle.std.specs.Prelude.{◌≡◌, ◌<◌, ℕ, ◌-◌, List, length, get_or, vec_len, vec_capacity}
use Rattle.store_dev.specs.declared.device.StoreDevice.{Ghosts}
use Rattle.pair_reader.specs.declared.wanted.Lengths.{Lengths}
use Rattle.record_log.specs.declared.log.Log.{Log}
use Rattle.record_log.specs.Kinds.{Entry}
use Rattle.record_log.specs.Log.{count_of}
use Rattle.blob_pool.specs.Known.{known_in}
use Rattle.pair_frames.specs.Pairs.{pairs_in}
use Rattle.pair_frames.specs.Reading.{record_places}
use Rattle.pair_index.specs.declared.index.Index.{Index}
use Rattle.pair_index.specs.Keys.{IsKeysOf}

-- the numbers of the frames that hold pairs, by the numbers of the pairs
abbrev pub frames_in : Index → List ℕ
frames_in index = index.frames.items

abbrev pub lengths_in : Index → Lengths
lengths_in index = index.keys.lengths

-- how many frames more it can learn with no memory taken
abbrev pub frame_room : Index → ℕ
frame_room index = vec_capacity index.frames - vec_len index.frames

-- the pairs of these frames, and no others
pub record IsIndexOf (index : Index) (fs : List Entry) : Type 0 where
  pub frames : frames_in index ≡ record_places 0 fs
  pub keys : IsKeysOf index.keys (pairs_in fs)

-- the frames of pairs have numbers below that
abbrev pub FramesBelow : Index → ℕ → Type 0
FramesBelow index n = (i : ℕ) → i < length (frames_in index) → get_or (frames_in index) i 0 < n

-- The index of a log. That frames are below the count holds also where the device tells no bytes.
pub record Indexes {S : Type 0} {G : Ghosts S} (index : Index) (log : Log S G) : Type 0 where
  pub told : G.tells → IsIndexOf index (known_in log)
  pub below : FramesBelow index (count_of log)

-- the same pairs
pub record IndexesTheSame (old new : Index) : Type 0 where
  pub frames : frames_in new ≡ frames_in old
  pub lens : new.keys.lens.items ≡ old.keys.lens.items
  pub numbers : new.keys.hashed.items ≡ old.keys.hashed.items
  pub prints : new.keys.prints.digests ≡ old.keys.prints.digests
  pub lengths : lengths_in new ≡ lengths_in old
