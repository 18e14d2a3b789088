-- What a turn leaves of a shared file and of what is known of it.
use Rattle.std.specs.Prelude.{◌≡◌, ◌⊎◌, ◌≤◌, ◌-◌, ◌++◌, ℕ, false, List, length, take, Ok, Some}
use Rattle.std.specs.Prelude.{is_some}
use Rattle.rel_path.specs.Limits.{store_limit}
use Rattle.cache_api.specs.declared.puts.Put.{Put}
use Rattle.cache_api.specs.Pairs.{Pair, chosen}
use Rattle.record_log.specs.Kinds.{Entry}
use Rattle.pair_frames.specs.Pairs.{pairs_in}
use Rattle.artifact_store.specs.Outcomes.{outcomes}
use Rattle.store_dev.specs.declared.device.StoreDevice.{Ghosts as DeviceGhosts}
use Rattle.record_log.specs.Frames.{reading, frames_of, ends}
use Rattle.artifact_store.specs.declared.mark.StoreMark.{StoreMark}
use Rattle.artifact_store.specs.Pairs.{free_in}
use Rattle.shared_runs.specs.declared.turn.Shared.{Ghosts}
use Rattle.shared_runs.specs.declared.turns.Turns.{Turns}
use Rattle.shared_runs.specs.Marked.{IsMarked}
use Rattle.shared_runs.specs.Frames.{HoldsFirst}
use Rattle.shared_runs.specs.Others.{with_pairs}
use Rattle.shared_runs.specs.Passing.{LeavesFirst}
use Rattle.shared_runs.specs.Turns.{GoesOn}
use Rattle.shared_runs.specs.Views.{pairs_at}

-- The turn is not held, and the file has the frames that were to come, or no mark is kept. Where
-- one is kept it tells of the frames. A told file was found to be a store. Reads are counted.
pub record PassesTurn {H D : Type 0} (G : Ghosts H D) (K : DeviceGhosts D) (old new : Turns H)
    : Type 0 where
  pub held : (G.turn new.shared).held ≡ false
  pub began : (G.turn new.shared).began ≡ G.moment old.shared
  pub first : K.tells → LeavesFirst G old.shared new.shared
  pub ended : (is_some new.mark ≡ false)
      ⊎ (K.tells → reading (G.content new.shared) ≡ Ok (G.coming old.shared))
  pub undamaged : K.tells → new.damaged ≡ old.damaged
  pub grows : ends (G.coming old.shared) ≤ ends (G.coming new.shared)
  pub known : (m : StoreMark) → new.mark ≡ Some m → K.tells
      → IsMarked m (G.content new.shared) (G.images new.shared)
  pub free : K.tells → free_in (G.content old.shared) ≤ old.room
      → free_in (G.content new.shared) ≤ new.room
  pub reads : old.reads ≤ new.reads

-- The bytes stand for the first of the frames that were to come, which are at least so many, or for
-- all of them with those of pairs that are put behind them.
abbrev pub HoldsFirstOrPut : ℕ → List Entry → List Pair → List ℕ → Type 0
HoldsFirstOrPut least coming pairs c =
    HoldsFirst least coming c ⊎ (reading c ≡ Ok (with_pairs coming pairs))

-- The same of a turn in which pairs are put: the file and each image since the turn was asked for
-- hold the frames that were to come, or the first of them, or all of them with those of the pairs.
pub record PutsTurn {H D : Type 0} (G : Ghosts H D) (K : DeviceGhosts D) (pairs : List Pair)
    (old new : Turns H) : Type 0 where
  pub held : (G.turn new.shared).held ≡ false
  pub began : (G.turn new.shared).began ≡ G.moment old.shared
  pub file : K.tells
      → HoldsFirstOrPut (length (frames_of (G.content old.shared))) (G.coming old.shared) pairs
      (G.content new.shared)
  pub goes : K.tells → GoesOn G.moment G.images_since old.shared new.shared
      (HoldsFirstOrPut (length (frames_of (G.content old.shared))) (G.coming old.shared) pairs)
  pub undamaged : K.tells → new.damaged ≡ old.damaged
  pub grows : ends (G.coming old.shared) ≤ ends (G.coming new.shared)
  pub known : (m : StoreMark) → new.mark ≡ Some m → K.tells
      → IsMarked m (G.content new.shared) (G.images new.shared)
  pub free : K.tells → free_in (G.content old.shared) ≤ old.room
      → free_in (G.content new.shared) ≤ new.room
  pub reads : old.reads ≤ new.reads

-- what a call that puts pairs leaves of the file
pub record LeavesPut {H D : Type 0} (G : Ghosts H D) (pairs : List Pair) (old new : H)
    : Type 0 where
  pub file : HoldsFirstOrPut (length (frames_of (G.content old))) (G.coming old) pairs
      (G.content new)
  pub goes : GoesOn G.moment G.images_since old new
      (HoldsFirstOrPut (length (frames_of (G.content old))) (G.coming old) pairs)

-- The pairs were put, each for which there was room, behind so many that the file had.
pub record IsPut (coming : List Entry) (pairs : List Pair) (file : List ℕ) (count : ℕ)
    (puts : List Put) : Type 0 where
  pub puts_are : puts ≡ outcomes (store_limit - ends coming) coming pairs
  pub frames : reading file ≡ Ok (with_pairs coming pairs)
  pub pairs_are : pairs_in (with_pairs coming pairs) ≡ pairs_in coming ++ chosen pairs puts
  pub count_is : count ≡ length (pairs_in coming)

-- those of these pairs for which there is room behind the frames that are to come
abbrev pub put_behind : List Entry → List Pair → List Pair
put_behind coming pairs = chosen pairs (outcomes (store_limit - ends coming) coming pairs)

-- The file has the first of the frames that were to come, at least so many, or all their pairs and
-- behind these the first of the pairs that are put, none to all.
abbrev pub HoldsSomePut : ℕ → List Entry → List Pair → List ℕ → Type 0
HoldsSomePut least coming pairs file = HoldsFirst least coming file
    ⊎ ((count : ℕ) × (count ≤ length pairs)
    × (pairs_at file ≡ pairs_in coming ++ take count pairs))
