-- What the devices of an order to run hold at a moment of it.
use Rattle.std.specs.Prelude.{ℕ, List}
use Rattle.tree_dev.specs.Tree.{TreeState}
use Rattle.spawn_dev.specs.Spawn.{Runs}
use Rattle.record_log.specs.Kinds.{Entry}
use Rattle.cli_words.specs.declared.order.Access.{Access}
use Rattle.answers.specs.Moments.{Moment, MomentOf, moment_of}
use Rattle.store_answers.specs.Stores.{Stores, stores_of, held_in, held_by}
use Rattle.second_runs.specs.Moments as second
use Rattle.second_runs.specs.Moments.{both_of, local_in}
use Rattle.file_runs.specs.Turns.{held_in_turn}

-- The bytes of the store and the spare one, of the second store, and of the shared file, with the
-- frames that stand in that as its next turn is taken.
pub record StoreFiles : Type 0 where
  pub local : Stores
  pub second : List ℕ
  pub shared : List ℕ
  pub coming : List Entry

-- the files, the starts and ends of commands so far, the stores, and what was printed
abbrev pub OrderMoment : Type 0
OrderMoment = MomentOf StoreFiles

-- ---- what a run sees of it

-- over the current one of the store and the spare one
abbrev pub on_current : OrderMoment → Moment
on_current moment = record {
  files = moment.files;
  steps = moment.steps;
  held = held_in moment.held.local;
  printed = moment.printed;
}

-- over that one, where it is read, and the second store
abbrev pub on_second : Access → OrderMoment → second.Moment
on_second access moment = record {
  files = moment.files;
  steps = moment.steps;
  held = both_of (local_in access moment.held.local) (held_by moment.held.second);
  printed = moment.printed;
}

-- over the shared file
abbrev pub on_shared : OrderMoment → Moment
on_shared moment = record {
  files = moment.files;
  steps = moment.steps;
  held = held_in_turn moment.held.shared moment.held.coming;
  printed = moment.printed;
}

-- ---- what the devices hold

module _ {S P R H : Type 0} (content : S → List ℕ) (spare_content : P → List ℕ)
    (second_content : R → List ℕ) (shared_content : H → List ℕ) (coming : H → List Entry) where
  abbrev pub stores_at : S → P → R → H → StoreFiles
  stores_at store spare second_store shared = record {
    local = stores_of (content store) (spare_content spare);
    second = second_content second_store;
    shared = shared_content shared;
    coming = coming shared;
  }

-- and all of them
module _ {W S P R H K B T : Type 0} (state : W → TreeState T) (runs : W → Runs B)
    (content : S → List ℕ) (spare_content : P → List ℕ) (second_content : R → List ℕ)
    (shared_content : H → List ℕ) (coming : H → List Entry) (written : K → List ℕ) where
  abbrev pub at_moment : W → S → P → R → H → K → OrderMoment
  at_moment world store spare second_store shared out = moment_of (state world) (runs world)
      (stores_at content spare_content second_content shared_content coming
      store spare second_store shared) (written out)
