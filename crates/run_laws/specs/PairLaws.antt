-- Laws of keys, artifacts and stores.
use Rattle.std.specs.Prelude.{◌≡◌, ℕ, ◌<◌, List, [], ◌∷◌, ◌++◌, length, slice_get, Contains, Some}
use Rattle.std.specs.List.{AllByRecursion}
use Rattle.listing.specs.declared.part.Listing.{Listing}
use Rattle.run_core.specs.declared.states.Mode.{Mode}
use Rattle.spawn_dev.specs.declared.effect.Effect.{Effect}
use Rattle.run_laws.specs.Ancestors.{part_at}
use Rattle.run_laws.specs.Closures.{closure}
use Rattle.run_laws.specs.Valid.{IsValid}
use Rattle.run_laws.specs.Effects.{Book}
use Rattle.cache_api.specs.Artifacts.{Artifact, artifact_text}
use Rattle.cache_api.specs.Pairs.{Pair}
use Rattle.run_laws.specs.Clean.{clean}
use Rattle.run_laws.specs.Keys.{artifact_of, key_of, IsStorable}
use Rattle.run_laws.specs.Pairs.{IsGood, EndsWell, IsDue, IsHistory}
use Rattle.run_laws.specs.Marks.{found_for}

-- Over two valid listings, places with equal keys have equal closures, one package and task, and equal outcomes
-- whatever commands do. So different tasks of a listing have different keys.
pub record KeysLaw : Type 0 where
  pub closures : (l m : Listing) (i j : ℕ) → IsValid l → IsValid m → key_of l i ≡ key_of m j → closure l i ≡ closure m j
  pub tasks : (l m : Listing) (i j : ℕ) → IsValid l → IsValid m → i < length l.parts → j < length m.parts → key_of l i ≡ key_of m j
      → ((part_at l i).package ≡ (part_at m j).package) × ((part_at l i).task ≡ (part_at m j).task)
  pub outcomes : (mode : Mode) (book : Book) (l m : Listing) (i j : ℕ) → IsValid l → IsValid m → i < length l.parts → j < length m.parts → key_of l i ≡ key_of m j
      → slice_get (clean mode book l) i ≡ slice_get (clean mode book m) j

-- What good pairs hold under the key of a task is the artifact of its clean outcome, in every mode, and the task
-- and all its ancestors come to a good end. So what is found for a task is the log and the files of its clean
-- outcome.
pub record HitLaw : Type 0 where
  pub value : (book : Book) (mode : Mode) (pairs : List Pair) (value : List ℕ) (l : Listing) (i : ℕ) → IsGood book pairs → IsValid l → i < length l.parts
      → Contains pairs (key_of l i, value) → (effect : Effect) × EndsWell mode book l i effect × (value ≡ artifact_text (artifact_of effect))
  pub found : (book : Book) (mode : Mode) (pairs : List Pair) (a : Artifact) (l : Listing) (i : ℕ) → IsStorable mode book l
      → IsGood book pairs → IsValid l → i < length l.parts
      → found_for pairs l i ≡ Some a → (effect : Effect) × EndsWell mode book l i effect × (a ≡ artifact_of effect)

-- Good pairs stay good when a pair is appended that is due.
abbrev pub DueLaw : Type 0
DueLaw = (book : Book) (pairs : List Pair) (pair : Pair) → IsGood book pairs → IsDue book pair → IsGood book (pairs ++ pair ∷ [])

-- In a chain of runs that began with an empty store, each over any repository, every store is good.
abbrev pub HistoryLaw : Type 0
HistoryLaw = (book : Book) (stores : List (List Pair)) → IsHistory book [] stores → AllByRecursion (IsGood book) stores
