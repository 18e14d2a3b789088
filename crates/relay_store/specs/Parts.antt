-- One of the stores of a relay: the pairs that it had at first, and what it is as a cache.
use Rattle.std.specs.Prelude.{◌≡◌, ◌≤◌, ℕ, Bool, true, false, List, [], ◌++◌, take, drop, length}
use Rattle.std.specs.Prelude.{Option, Result, IfOk, IfErr, OnOk}
use Rattle.rel_path.specs.Causes.{Counts}
use Rattle.store_dev.specs.declared.device.StoreDevice.{Ghosts}
use Rattle.cache_api.specs.declared.error.CacheErr.{CacheErr}
use Rattle.cache_api.specs.declared.hit.Hit.{Hit}
use Rattle.cache_api.specs.Artifacts.{Artifact}
use Rattle.cache_api.specs.Cache.{CacheState, CacheReads, HitsStay, Keeps, ArePut, StaysWhole}
use Rattle.cache_api.specs.Cache.{ample, is_fault, IsFindErr}
use Rattle.cache_api.specs.Moments.{Moment, Leaves}
use Rattle.cache_api.specs.Pairs.{Pair, IsFirstPart}
use Rattle.cache_api.specs.declared.puts.Puts.{Puts}
use Rattle.pair_frames.specs.Puts.{put_size, added}
use Rattle.artifact_store.specs.Pairs.{told_as}
use Rattle.relay_store.specs.declared.part.Part.{Part}
use Rattle.relay_store.specs.Access.{is_there}
use Rattle.relay_store.specs.Puts.{Space, all_stored}
use Rattle.relay_store.specs.Stores.{state_in, frames_in, stores_in, cost_in, moment_in, images_in}
use Rattle.relay_store.specs.Stores.{stands_in, shows_in}

abbrev pub pairs_of : {S : Type 0} {G : Ghosts S} → Part S G → List Pair
pairs_of part = (state_in part.store).pairs

-- the pairs that it had when the relay was made
abbrev pub first_of : {S : Type 0} {G : Ghosts S} → Part S G → List Pair
first_of part = take part.first (pairs_of part)

-- those behind them
abbrev pub more_of : {S : Type 0} {G : Ghosts S} → Part S G → List Pair
more_of part = drop part.first (pairs_of part)

-- what no call changes: the generation of its frames, and its first pairs where its device tells
-- them
pub record PartBase (T : Type 0) : Type 0 where
  pub generation : ℕ
  pub first : T → List Pair

abbrev pub base_of : {S : Type 0} {G : Ghosts S} → Part S G → PartBase G.tells
base_of part = record {
  generation = (state_in part.store).base;
  first = λ told. first_of part;
}

-- ---- as a cache

abbrev pub state_of : {S : Type 0} {G : Ghosts S} → Part S G → CacheState (PartBase G.tells)
state_of part = record {
  pairs = pairs_of part;
  lasting = length (pairs_of part);
  whole = (state_in part.store).whole;
  room = (state_in part.store).room;
  sure = (state_in part.store).room;
  faults = (state_in part.store).faults;
  probes = (state_in part.store).probes;
  base = base_of part;
}

abbrev pub cost_of : {S : Type 0} {G : Ghosts S} → Part S G → List ℕ → ℕ
cost_of part key = cost_in part.store key

abbrev pub stands : {S : Type 0} {G : Ghosts S} → Part S G → Hit → Type 0
stands part hit = stands_in part.store hit

abbrev pub shows : {S : Type 0} {G : Ghosts S} → Part S G → Hit → Artifact
shows part hit = shows_in part.store hit

-- the clock of its device, which is the only one
abbrev pub moment_of : {S : Type 0} {G : Ghosts S} → Part S G → Moment
moment_of part = record { first = moment_in part.store; second = 0 }

-- what a crash since a moment may have left of its device
abbrev pub left_of : {S : Type 0} {G : Ghosts S} → Part S G → Moment → List ℕ → Type 0
left_of part m image = images_in part.store m.first image

-- the pairs for which an image stands
abbrev pub says_of : {T : Type 0} → PartBase T → List ℕ → Option (List Pair)
says_of base image = told_as base.generation image

-- where it puts pairs
abbrev pub space_of : {S : Type 0} {G : Ghosts S} → Part S G → Space
space_of part = record { room = (state_in part.store).room; frames = frames_in part.store }

-- ---- calls

-- what a call leaves of it that only reads
pub record IsRead {S : Type 0} {G : Ghosts S} (old new : Part S G) : Type 0 where
  pub reads : CacheReads G.tells state_of cost_of stands shows moment_of left_of says_of old new
  pub first : new.first ≡ old.first
  pub there : is_there new.store ≡ is_there old.store

-- and what such a call answers
pub record IsAsked {S T : Type 0} {G : Ghosts S} (old new : Part S G) (result : Result T CacheErr)
    : Type 0 where
  pub read : IsRead old new
  pub whole : StaysWhole result (state_of old).whole (state_of new).whole
  pub answers : IfErr result IsFindErr
  pub cause : Counts is_fault (state_of old).faults (state_of new).faults result

-- the frames of a pair find room
pub record HasRoom {S : Type 0} {G : Ghosts S} (part : Part S G) (pair : Pair) : Type 0 where
  pub size : put_size (frames_in part.store) pair ≤ (state_of part).room
  pub ample : put_size (frames_in part.store) pair ≤ ample pair

-- each of these pairs finds room, one after another
abbrev pub AllFit : {S : Type 0} {G : Ghosts S} → Part S G → List Pair → Type 0
AllFit part pairs = stores_in part.store pairs ≡ all_stored pairs

-- what it has more after pairs were put into it, whatever came of that
pub record HasGrown {S : Type 0} {G : Ghosts S} (old new : Part S G) (news : List Pair)
    : Type 0 where
  pub pairs : G.tells
      → (n : ℕ) × (n ≤ length news) × (pairs_of new ≡ pairs_of old ++ take n news)
  pub left : G.tells → Leaves moment_of left_of old new
      (λ image. IsFirstPart (pairs_of old) news (says_of (base_of old) image))
  pub hits : HitsStay G.tells stands shows old new
  pub keeps : Keeps (state_of old) (state_of new)
  pub first : new.first ≡ old.first
  pub there : is_there new.store ≡ is_there old.store

-- a call that puts pairs into it, for all of which there is room, with what it answers
pub record IsPutInto {S : Type 0} {G : Ghosts S} (old new : Part S G) (pairs : List Pair)
    (result : Result Puts CacheErr) : Type 0 where
  pub grown : HasGrown old new pairs
  pub stored : G.tells → IfOk result (λ puts. puts ≡ all_stored pairs)
  pub all : G.tells → OnOk result (pairs_of new ≡ pairs_of old ++ pairs)
  pub frames : G.tells → OnOk result (frames_in new.store ≡ frames_in old.store
      ++ added (state_of old).room (frames_in old.store) pairs)
  pub room : IfOk result (ArePut (state_of new).room pairs)
  pub whole : StaysWhole result (state_of old).whole (state_of new).whole
  pub answers : IfErr result IsFindErr
  pub cause : Counts is_fault (state_of old).faults (state_of new).faults result

-- those that are given to it
abbrev pub into : Bool → List Pair → List Pair
into true pairs = pairs
into false pairs = []

-- the same where it may be that nothing is put into it
pub record MayGrow {S : Type 0} {G : Ghosts S} (puts : Bool) (old new : Part S G)
    (pairs : List Pair) (result : Result Puts CacheErr) : Type 0 where
  pub grown : HasGrown old new (into puts pairs)
  pub all : G.tells → OnOk result (pairs_of new ≡ pairs_of old ++ into puts pairs)
  pub frames : puts ≡ true → G.tells → OnOk result (frames_in new.store ≡ frames_in old.store
      ++ added (state_of old).room (frames_in old.store) pairs)
  pub whole : OnOk result ((state_of new).whole ≡ (state_of old).whole)
