-- What the devices of a run over a local store and a second one hold at a moment of it.
use Rattle.std.specs.Prelude.{ℕ, List, [], Some, if◌then◌else◌}
use Rattle.tree_dev.specs.Tree.{TreeState}
use Rattle.spawn_dev.specs.Spawn.{Runs}
use Rattle.cli_words.specs.declared.order.Access.{Access}
use Rattle.answers.specs.Moments.{Held, MomentOf, moment_of}
use Rattle.store_answers.specs.Stores.{Stores, stores_of, held_in, held_by}

-- what each of the two stores holds
pub record Both : Type 0 where
  pub local : Held
  pub second : Held

abbrev pub both_of : Held → Held → Both
both_of local second = record { local = local; second = second }

-- a local store that is not read holds nothing for the run
abbrev pub nothing : Held
nothing = record { pairs = Some []; free = 0 }

-- the local store is the current one of the store and the spare one, where it is read
abbrev pub local_in : Access → Stores → Held
local_in access stores = if access.local_reads then held_in stores else nothing

-- the files, the starts and ends of commands so far, what both stores hold, and what was printed
abbrev pub Moment : Type 0
Moment = MomentOf Both

-- ---- what the devices hold

module _ {W S P R K B T : Type 0} (state : W → TreeState T) (runs : W → Runs B)
    (content : S → List ℕ) (spare_content : P → List ℕ) (second_content : R → List ℕ)
    (written : K → List ℕ) where
  -- of the store and the spare one the current one is the local store, where that is read
  abbrev pub at_moment : Access → W → S → P → R → K → Moment
  at_moment access world store spare second out = moment_of (state world) (runs world)
      (both_of (local_in access (stores_of (content store) (spare_content spare)))
      (held_by (second_content second))) (written out)
