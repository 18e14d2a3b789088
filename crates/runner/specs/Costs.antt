-- How often a run may still read the cache.
use Rattle.std.specs.Prelude.{ℕ, ◌+◌, ◌≤◌, List}
use Rattle.cache_api.specs.Cache.{CacheState}
use Rattle.run_core.specs.Machine.{States, is_waiting}
use Rattle.run_plan.specs.declared.plan.Plan.{Plan}
use Rattle.run_plan.specs.Costs.{cost_of_these}

-- what the look-ups may cost of the tasks that wait for theirs
abbrev pub still_costs : (List ℕ → ℕ) → Plan → States → ℕ
still_costs cost plan st = cost_of_these cost plan (λ t. is_waiting (st t))

-- what it costs more is what the look-ups may cost that are done now
abbrev pub Spends : {D S : Type 0} → Plan → (S → CacheState D) → (S → List ℕ → ℕ) → States
    → States → S → S → Type 0
Spends plan state cost before after old new =
    (state new).probes + still_costs (cost new) plan after
    ≤ (state old).probes + still_costs (cost old) plan before

-- it costs no more than these look-ups may
abbrev pub SpendsAtMost : {D S : Type 0} → Plan → (S → CacheState D) → (S → List ℕ → ℕ) → States
    → S → S → Type 0
SpendsAtMost plan state cost before old new =
    (state new).probes ≤ (state old).probes + still_costs (cost old) plan before
