-- Why an order to compact is refused.
use Rattle.std.specs.Prelude.{◌≡◌, ◌⊎◌, ◌<◌, ℕ, List, [], Option, Some, None}
use Rattle.cache_api.specs.Pairs.{Pair}
use Rattle.record_log.specs.Frames.{IsSound}
use Rattle.compact.specs.Answers.{last_generation}
use Rattle.compact.specs.Current.{generation_in, pairs_held}
use Rattle.compact.specs.Left.{chosen_in, next_generation}
use Rattle.compact.specs.Room.{Lack, lacking}
use Rattle.refusals.specs.declared.refusal.Refusal.{Refusal}
use Rattle.refusals.specs.declared.refusal.Refusal.TheVariants.{NoRoom, LastGeneration}
use Rattle.store_answers.specs.Stores.{Stores, current_bytes}
use Rattle.store_answers.specs.Refused.{IsNoStores}

-- ---- two stores

-- both are stores
pub record AreSound (stores : Stores) : Type 0 where
  pub store : IsSound stores.store
  pub spare : IsSound stores.spare

-- the pairs of the current one, and those that are kept of them
abbrev pub current_pairs : Stores → List Pair
current_pairs stores = pairs_held (current_bytes stores)

abbrev pub kept_pairs : Option ℕ → Stores → List Pair
kept_pairs keep stores = chosen_in (current_bytes stores) keep

-- what lacks room for the pairs that are kept of a store, and for the next generation
abbrev pub lacking_for : Option ℕ → List ℕ → Option Lack
lacking_for keep bytes = lacking (next_generation bytes) [] (chosen_in bytes keep)

-- ---- refusals

-- the store has the last generation
pub record IsLast (bytes : List ℕ) (reason : Refusal) : Type 0 where
  pub generation : generation_in bytes ≡ last_generation
  pub is : reason ≡ LastGeneration

-- it has not, and what is kept of it lacks room
pub record IsFull (keep : Option ℕ) (bytes : List ℕ) (reason : Refusal) : Type 0 where
  pub generation : generation_in bytes < last_generation
  pub lack : Lack
  pub lacks : lacking_for keep bytes ≡ Some lack
  pub is : reason ≡ NoRoom lack.need lack.free

-- why a store cannot be compacted
abbrev pub IsStuck : Option ℕ → List ℕ → Refusal → Type 0
IsStuck keep bytes reason = IsLast bytes reason ⊎ IsFull keep bytes reason

-- one of the files is no store, or both are and the current one cannot be compacted
abbrev pub IsRefusedCompact : Option ℕ → Stores → Refusal → Type 0
IsRefusedCompact keep stores reason =
    IsNoStores stores reason ⊎ (AreSound stores × IsStuck keep (current_bytes stores) reason)

-- nothing of that holds
pub record IsCompactable (keep : Option ℕ) (stores : Stores) : Type 0 where
  pub sound : AreSound stores
  pub generation : generation_in (current_bytes stores) < last_generation
  pub room : lacking_for keep (current_bytes stores) ≡ None
