-- How often a run may read the cache that only looks tasks up.
use Rattle.std.specs.Prelude.{ℕ, Bool, not, ◌&&◌, List, length, if◌then◌else◌}
use Rattle.run_core.specs.Moves.{sum_below}
use Rattle.run_laws.specs.Ancestors.{part_at, has_script}
use Rattle.run_laws.specs.Keys.{key_of}
use Rattle.run_plan.specs.declared.plan.Plan.{Plan}
use Rattle.run_plan.specs.Plans.{bypasses}

-- the cache is asked for the task: it has a script, and its results may be looked up
abbrev pub asks : Plan → ℕ → Bool
asks plan t = has_script (part_at plan.listing t) && not (bypasses plan t)

-- what the look-up of the task costs, where the cache is asked for it
abbrev pub task_cost : (List ℕ → ℕ) → Plan → ℕ → ℕ
task_cost cost plan t = if asks plan t then cost (key_of plan.listing t) else 0

-- the sum of what the look-ups of these tasks cost
abbrev pub cost_of_these : (List ℕ → ℕ) → Plan → (ℕ → Bool) → ℕ
cost_of_these cost plan these =
    sum_below (λ t. if these t then task_cost cost plan t else 0) (length plan.listing.parts)

-- the sum over all tasks
abbrev pub look_up_cost : (List ℕ → ℕ) → Plan → ℕ
look_up_cost cost plan = sum_below (task_cost cost plan) (length plan.listing.parts)
