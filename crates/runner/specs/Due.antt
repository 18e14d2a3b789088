-- What is left where what was due was put.
use Rattle.std.specs.Prelude.{◌≡◌, ◌⊎◌, ℕ, ◌≤◌, List, length, Option}
use Rattle.rel_path.specs.Causes.{Rose}
use Rattle.cache_api.specs.Cache.{CacheState, Keeps, AllLast}
use Rattle.cache_api.specs.Moments.{Moment, Leaves}
use Rattle.cache_api.specs.Pairs.{Pair, AreFirst, IsPartSince}

-- What was due was put, whatever came of it, or was not. No pair was lost, or the cache failed, and
-- then those are left that lasted. Where nothing was due, it costs nothing and changes no costs.
pub record PutsDue {D S X : Type 0} (tells : Type 0) (state : S → CacheState D)
    (cost : S → List ℕ → ℕ) (moment : S → Moment) (left : S → Moment → X → Type 0)
    (says : D → X → Option (List Pair)) (old new : S) : Type 0 where
  pub first : tells → AreFirst (state old).lasting (state old).pairs (state new).pairs
  pub same : tells → Rose (state old).faults (state new).faults
      ⊎ ((state new).pairs ≡ (state old).pairs)
  pub lasting : tells → (state old).lasting ≤ (state new).lasting
  pub within : tells → (state new).lasting ≤ length (state new).pairs
  pub images : tells → Leaves moment left old new (λ image.
      IsPartSince (state old).lasting (state old).pairs (says (state old).base image))
  pub probes : tells → AllLast (state old) → (state new).probes ≡ (state old).probes
  pub costs : tells → AllLast (state old) → (key : List ℕ) → cost new key ≡ cost old key
  pub keeps : Keeps (state old) (state new)

-- the same after the run has stopped: the count of faults does not fall
pub record SettlesLate {D S X : Type 0} (tells : Type 0) (state : S → CacheState D)
    (cost : S → List ℕ → ℕ) (moment : S → Moment) (left : S → Moment → X → Type 0)
    (says : D → X → Option (List Pair)) (old new : S) : Type 0 where
  pub due : PutsDue tells state cost moment left says old new
  pub later : (state old).faults ≤ (state new).faults
