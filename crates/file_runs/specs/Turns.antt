-- What a shared file holds for who takes its next turn.
use Rattle.std.specs.Prelude.{◌-◌, ℕ, List, Option, Some, None, Result, Ok, Err}
use Rattle.rel_path.specs.Limits.{store_limit}
use Rattle.tree_dev.specs.Tree.{TreeState}
use Rattle.spawn_dev.specs.Spawn.{Runs}
use Rattle.cache_api.specs.Pairs.{Pair}
use Rattle.record_log.specs.Kinds.{Entry}
use Rattle.record_log.specs.Frames.{Fault, reading, ends}
use Rattle.pair_frames.specs.Pairs.{pairs_in}
use Rattle.answers.specs.Moments.{Held, Moment, moment_of}

-- these pairs where bytes that were read are a store
abbrev pub if_store : Result (List Entry) Fault → List Pair → Option (List Pair)
if_store (Ok frames) pairs = Some pairs
if_store (Err fault) pairs = None

-- A file with these bytes, in which these frames stand as its next turn is taken, with those that
-- others append till then: the pairs of the frames, where it is a store, and the room behind them.
abbrev pub held_in_turn : List ℕ → List Entry → Held
held_in_turn file coming = record {
  pairs = if_store (reading file) (pairs_in coming);
  free = store_limit - ends coming;
}

-- ---- what the devices hold

module _ {W H K B R : Type 0} (state : W → TreeState R) (runs : W → Runs B)
    (content : H → List ℕ) (coming : H → List Entry) (written : K → List ℕ) where
  abbrev pub at_moment : W → H → K → Moment
  at_moment world shared out = moment_of (state world) (runs world)
      (held_in_turn (content shared) (coming shared)) (written out)
