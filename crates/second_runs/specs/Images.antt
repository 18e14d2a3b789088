-- What a crash leaves of the stores at any moment of a run over two of them.
use Rattle.std.specs.Prelude.{◌≡◌, ◌⊎◌, ℕ, Bool, true, false, List, ◌++◌, Option, Some}
use Rattle.store_dev.specs.declared.device.StoreDevice.{Ghosts}
use Rattle.cache_api.specs.Pairs.{Pair}
use Rattle.record_log.specs.Frames.{reading, ReadsAsOneOf}
use Rattle.artifact_store.specs.Pairs.{stands_for, told_as}
use Rattle.compact.specs.Current.{generation_in, pairs_of as current_pairs}
use Rattle.spawn_dev.specs.declared.command.Step.{Step}
use Rattle.cli_words.specs.declared.order.Access.{Access}
use Rattle.relay_store.specs.Parts.{into}
use Rattle.run_laws.specs.Effects.{Book}
use Rattle.run_plan.specs.declared.plan.Plan.{Plan}
use Rattle.run_plan.specs.Answers.{IsSafe}
use Rattle.run_plan.specs.Openings.{Opening}
use Rattle.cache_runs.specs.Openings.{IsTrustedRun, opening_at}
use Rattle.second_runs.specs.Moments.{Moment}
use Rattle.second_runs.specs.Outcomes.{AreStores, pairs_of}

-- ---- pairs are only added, and only where the store is put into

-- what is told are these pairs, and where the store is put into perhaps more behind them
abbrev pub IsBehind : Bool → List Pair → Option (List Pair) → Type 0
IsBehind puts pairs told = (more : List Pair) × (told ≡ Some (pairs ++ into puts more))

-- the bytes are read as those, or those are a store, and they one of its generation that has its
-- pairs, and more only where it is put into
abbrev pub AddsBehind : Bool → List ℕ → List ℕ → Type 0
AddsBehind puts d c = (reading c ≡ reading d)
    ⊎ ((pairs : List Pair) × (stands_for d ≡ Some pairs)
    × IsBehind puts pairs (told_as (generation_in d) c))

-- they do so for one of these images
abbrev pub AddsTo : Bool → (List ℕ → Type 0) → List ℕ → Type 0
AddsTo puts images c = (d : List ℕ) × images d × AddsBehind puts d c

-- ---- what a run of a plan is trusted in

-- the pairs are those of both stores
abbrev pub IsTrustedSecond : Bool → Access → Book → Plan → Moment → Type 0
IsTrustedSecond is_dry access book plan old =
    (both : AreStores old.held) → IsTrustedRun is_dry book plan (pairs_of access both)

-- ---- what a crash leaves

-- a run puts into a store that is put into, but for a dry one
abbrev pub adds : Bool → Bool → Bool
adds true puts = false
adds false puts = puts

-- Of a store that had these first pairs: they, and where the run puts into it some more behind them
-- which it may have put into the cache by these steps.
abbrev pub IsLeftBehind : Bool → Plan → Opening → List Step → List Pair → Option (List Pair)
    → Type 0
IsLeftBehind false plan o steps first told = told ≡ Some first
IsLeftBehind true plan o steps first told = (more : List Pair) × (told ≡ Some (first ++ more))
    × ((room : ℕ) × IsSafe plan o room steps (o.pairs ++ more))

-- the same by whether the run is dry, over the pairs of both stores
abbrev pub IsLeftBy : Bool → Bool → Book → Plan → Moment → List Step → List Pair → List Pair
    → Option (List Pair) → Type 0
IsLeftBy is_dry puts book plan old steps pairs first told =
    IsLeftBehind (adds is_dry puts) plan (opening_at book old pairs) steps first told

-- of the local store, by what is told of an image: the run, over the pairs of both, left it
abbrev pub IsLeftOfLocal : Bool → Access → Book → Plan → Moment → List Step → Option (List Pair)
    → Type 0
IsLeftOfLocal is_dry access book plan old steps told = (both : AreStores old.held)
    × IsLeftBy is_dry access.local_puts book plan old steps (pairs_of access both) both.local told

-- the same of the second one
abbrev pub IsLeftOfSecond : Bool → Access → Book → Plan → Moment → List Step → Option (List Pair)
    → Type 0
IsLeftOfSecond is_dry access book plan old steps told = (both : AreStores old.held)
    × IsLeftBy is_dry access.second_puts book plan old steps (pairs_of access both) both.second told

-- Of the device of a local store, whose bytes had that generation: each image is read as one that
-- there was as the call began, or the run left it.
abbrev pub IsLeftInLocal : Bool → Access → Book → Plan → Moment → List Step → ℕ
    → (List ℕ → Type 0) → List ℕ → Type 0
IsLeftInLocal is_dry access book plan old steps generation images c = ReadsAsOneOf images c
    ⊎ IsLeftOfLocal is_dry access book plan old steps (told_as generation c)

-- the same of the second one
abbrev pub IsLeftInSecond : Bool → Access → Book → Plan → Moment → List Step → ℕ
    → (List ℕ → Type 0) → List ℕ → Type 0
IsLeftInSecond is_dry access book plan old steps generation images c = ReadsAsOneOf images c
    ⊎ IsLeftOfSecond is_dry access book plan old steps (told_as generation c)

-- ---- of the store and the spare one together

-- the current one of two images stands for what that of two such images stands for
abbrev pub IsOneOfBoth : (List ℕ → Type 0) → (List ℕ → Type 0) → List ℕ → List ℕ → Type 0
IsOneOfBoth stores spares f s = (d : List ℕ) × (e : List ℕ) × stores d × spares e
    × (current_pairs f s ≡ current_pairs d e)

-- The current one of two images stands for what that of two images stood for as the call began, or
-- for what the run left.
abbrev pub IsLeftInBoth : Bool → Access → Book → Plan → Moment → List Step → (List ℕ → Type 0)
    → (List ℕ → Type 0) → List ℕ → List ℕ → Type 0
IsLeftInBoth is_dry access book plan old steps stores spares f s = IsOneOfBoth stores spares f s
    ⊎ IsLeftOfLocal is_dry access book plan old steps (current_pairs f s)

-- at any moments of a call an image of the one device and one of the other leave what has Q
abbrev pub LeavesPairs : {S P : Type 0} → Ghosts S → Ghosts P → S → S → P → P
    → (List ℕ → List ℕ → Type 0) → Type 0
LeavesPairs G H old new spare new_spare Q = (f s : List ℕ)
    → G.images_since new (G.moment old) f → H.images_since new_spare (H.moment spare) s → Q f s
