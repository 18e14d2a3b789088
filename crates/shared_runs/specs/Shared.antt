-- A shared file as a cache of one run.
use Rattle.std.specs.Prelude.{ℕ, ◌+◌, ◌-◌, min, List, length, take, Option, is_some}
use Rattle.store_dev.specs.declared.device.StoreDevice.{Ghosts as DeviceGhosts}
use Rattle.rel_path.specs.Limits.{store_limit}
use Rattle.cache_api.specs.declared.hit.Hit.{Hit}
use Rattle.cache_api.specs.declared.puts.Put.{Put}
use Rattle.cache_api.specs.Artifacts.{Artifact}
use Rattle.cache_api.specs.Cache.{CacheState}
use Rattle.cache_api.specs.Moments.{Moment}
use Rattle.cache_api.specs.Pairs.{Pair}
use Rattle.record_log.specs.Kinds.{Entry}
use Rattle.record_log.specs.Frames.{frames_of, ends, text_of}
use Rattle.artifact_reader.specs.Parts.{shown_in}
use Rattle.pair_reader.specs.Answers.{HitIsWithin}
use Rattle.artifact_store.specs.Outcomes.{outcomes}
use Rattle.shared_runs.specs.declared.store.SharedStore.{SharedStore}
use Rattle.shared_runs.specs.declared.turn.Shared.{Ghosts}
use Rattle.shared_runs.specs.Costs.{cost_among}
use Rattle.shared_runs.specs.Views.{pairs_at, view_of, Says}

-- an image of the file, and the pairs that it says
pub record Image : Type 0 where
  pub bytes : List ℕ
  pub pairs : Option (List Pair)

-- an image says its pairs, whatever the run keeps
abbrev pub said : {B : Type 0} → B → Image → Option (List Pair)
said base image = image.pairs

module _ {H D : Type 0} {G : Ghosts H D} {K : DeviceGhosts D} where
  -- the bytes of the file
  abbrev pub file_of : SharedStore H D G K → List ℕ
  file_of s = G.content s.turns.shared

  -- those of its frames that count
  abbrev pub frames_in : SharedStore H D G K → List Entry
  frames_in s = frames_of (file_of s)

  -- and those that stand in it as the next turn is taken
  abbrev pub coming_in : SharedStore H D G K → List Entry
  coming_in s = G.coming s.turns.shared

  -- The pairs are those that the run sees, and all of them last; it may be used while what is known
  -- of the frames is kept; the room is that of its last turn, or what the frames to come leave of
  -- it, and none of it is sure, since others may take it at any moment; its reads are those of its
  -- turns once they are open; and what it keeps as it is are the pairs of its first turn.
  abbrev pub state_of : SharedStore H D G K → CacheState (K.tells → List Pair)
  state_of s = record {
    pairs = view_of s.seen (file_of s);
    lasting = length (view_of s.seen (file_of s));
    whole = is_some s.turns.mark;
    room = min s.turns.room (store_limit - ends (coming_in s));
    sure = 0;
    faults = G.store_faults s.turns.shared + s.turns.damaged;
    probes = s.turns.reads;
    base = λ told. take s.seen.first (pairs_at (file_of s));
  }

  abbrev pub moment_of : SharedStore H D G K → Moment
  moment_of s = record { first = G.moment s.turns.shared; second = 0 }

  -- what a crash since a moment may have left, and what it says
  abbrev pub left_of : SharedStore H D G K → Moment → Image → Type 0
  left_of s m image = G.images_since s.turns.shared m.first image.bytes
      × Says (is_some s.turns.mark) (G.images_since s.turns.shared (G.turn s.turns.shared).began)
      s.seen (file_of s) image.bytes image.pairs

  -- ---- hits

  -- its places stand in the text of the frames
  abbrev pub stands : SharedStore H D G K → Hit → Type 0
  stands s hit = K.tells → HitIsWithin (text_of (frames_in s)) hit

  abbrev pub shows : SharedStore H D G K → Hit → Artifact
  shows s hit = shown_in (text_of (frames_in s)) hit

  -- ---- look-ups and puts

  -- how often a turn's store may be read to look up a key among the pairs that are seen, and then
  -- what was found
  abbrev pub cost_of : SharedStore H D G K → List ℕ → ℕ
  cost_of s key = cost_among s.seen (frames_in s) key

  -- for which of these pairs there is room behind the frames to come, one after another
  abbrev pub stores : SharedStore H D G K → List Pair → List Put
  stores s pairs = outcomes (store_limit - ends (coming_in s)) (coming_in s) pairs
