-- The pairs of a store, keys with values: when they tell the truth, and which pairs a run adds (Turborepo docs,
-- "Caching": a task is put into the cache when it has ended with status 0).
use Rattle.std.specs.Prelude.{◌≡◌, ℕ, ◌<◌, Bool, true, false, ◌==◌, List, [], ◌∷◌, ◌++◌, length, slice_get, Some, ⊤}
use Rattle.std.specs.List.{AllByRecursion}
use Rattle.listing.specs.KeyText.{key_text}
use Rattle.listing.specs.declared.part.Listing.{Listing}
use Rattle.run_core.specs.declared.states.Mode.{Mode}
use Rattle.run_core.specs.declared.states.Mode.TheVariants.{Never}
use Rattle.spawn_dev.specs.declared.effect.Effect.{Effect}
use Rattle.run_laws.specs.declared.outcome.Outcome.{Outcome}
use Rattle.run_laws.specs.declared.outcome.Outcome.TheVariants.{Skipped, Passed, Done}
use Rattle.run_laws.specs.Picks.{last}
use Rattle.run_laws.specs.Closures.{in_closure}
use Rattle.run_laws.specs.Valid.{IsValid}
use Rattle.run_laws.specs.Effects.{Book}
use Rattle.run_laws.specs.Clean.{clean}
use Rattle.cache_api.specs.Artifacts.{artifact_text}
use Rattle.cache_api.specs.Pairs.{Pair}
use Rattle.run_laws.specs.Keys.{artifact_of, key_of}

-- ---- pairs that tell the truth

-- passed over, or ended with status 0
abbrev pub is_good : Outcome → Bool
is_good Skipped = false
is_good Passed = true
is_good (Done effect) = effect.status == 0

abbrev pub AreGood : List Outcome → Type 0
AreGood outcomes = AllByRecursion (λ o. is_good o ≡ true) outcomes

-- the value is the artifact of the listing's last task, and every task of the listing came to a good end
abbrev pub IsResult : Book → Listing → List ℕ → Type 0
IsResult book l value =
    AreGood (clean Never book l) × ((effect : Effect) × (last (clean Never book l) ≡ Some (Done effect)) × (value ≡ artifact_text (artifact_of effect)))

-- the pair tells the truth of each valid listing that has this key text
abbrev pub IsGoodPair : Book → Pair → Type 0
IsGoodPair book pair = (l : Listing) → IsValid l → key_text l ≡ pair.0 → IsResult book l pair.1

abbrev pub IsGood : Book → List Pair → Type 0
IsGood book pairs = AllByRecursion (IsGoodPair book) pairs

-- ---- pairs that runs add

-- the command of the task did this in the run without a cache, and the task and all its ancestors came to a good end
pub record EndsWell (mode : Mode) (book : Book) (l : Listing) (i : ℕ) (effect : Effect) : Type 0 where
  pub ended : slice_get (clean mode book l) i ≡ Some (Done effect)
  pub good : (j : ℕ) (o : Outcome) → in_closure l i j ≡ true → slice_get (clean mode book l) j ≡ Some o → is_good o ≡ true

-- the pair that such an end adds
abbrev pub due_pair : Listing → ℕ → Effect → Pair
due_pair l i effect = (key_of l i, artifact_text (artifact_of effect))

-- the pair is due: some run over some valid listing, in some mode, may add it
pub record IsDue (book : Book) (pair : Pair) : Type 0 where
  pub mode : Mode
  pub listing : Listing
  pub place : ℕ
  pub effect : Effect
  pub valid : IsValid listing
  pub below : place < length listing.parts
  pub well : EndsWell mode book listing place effect
  pub is : pair ≡ due_pair listing place effect

-- a run adds pairs that are due, and changes none
pub record Adds (book : Book) (before after : List Pair) : Type 0 where
  pub added : List Pair
  pub is : after ≡ before ++ added
  pub due : AllByRecursion (IsDue book) added

-- these stores follow one another, each by a run over the one before it; every run may have other files, words and
-- variables
abbrev pub IsHistory : Book → List Pair → List (List Pair) → Type 0
IsHistory book before [] = ⊤
IsHistory book before (pairs ∷ later) = Adds book before pairs × IsHistory book pairs later
