-- The files of the stores of a repository: the store, and the spare one into which it is compacted.
use Rattle.std.specs.Prelude.{List, ℕ, Option, Some, None}
use Rattle.tree_dev.specs.Tree.{TreeState}
use Rattle.spawn_dev.specs.Spawn.{Runs}
use Rattle.artifact_store.specs.Pairs.{stands_for, free_in}
use Rattle.compact.specs.Current.{current_of, on_side, pairs_of}
use Rattle.answers.specs.Moments.{Held, Moment, moment_of}

-- their bytes
pub record Stores : Type 0 where
  pub store : List ℕ
  pub spare : List ℕ

abbrev pub stores_of : List ℕ → List ℕ → Stores
stores_of store spare = record { store = store; spare = spare }

-- the bytes of the current one
abbrev pub current_bytes : Stores → List ℕ
current_bytes stores = on_side (current_of stores.store stores.spare) stores.store stores.spare

-- what is so where both are there
abbrev pub if_both : {A B C : Type 0} → Option A → Option B → Option C → Option C
if_both (Some a) (Some b) c = c
if_both (Some a) None c = None
if_both None b c = None

-- what the current one holds, where both are stores
abbrev pub held_in : Stores → Held
held_in stores = record {
  pairs = if_both (stands_for stores.store) (stands_for stores.spare)
      (pairs_of stores.store stores.spare);
  free = free_in (current_bytes stores);
}

-- what one store of these bytes holds
abbrev pub held_by : List ℕ → Held
held_by bytes = record { pairs = stands_for bytes; free = free_in bytes }

-- ---- what the devices hold

module _ {W S P K B R : Type 0} (state : W → TreeState R) (runs : W → Runs B)
    (content : S → List ℕ) (spare_content : P → List ℕ) (written : K → List ℕ) where
  abbrev pub at_moment : W → S → P → K → Moment
  at_moment world store spare out = moment_of (state world) (runs world)
      (held_in (stores_of (content store) (spare_content spare))) (written out)
