-- A plan, task by task, and when it is valid (Turborepo docs, "Running tasks": the tasks of a run in topological order,
-- `--force`, `--output-logs`; "Configuring tasks": `cache`, `outputLogs`).
use Rattle.std.specs.Prelude.{◌≡◌, ℕ, ◌<◌, ◌≤◌, ◌^◌, Bool, true, not, ◌||◌, List, [], length, slice_get, slice_index_or, Option, Some, None, unwrap_or}
use Rattle.rel_path.specs.Limits.{width_limit}
use Rattle.turbo_config.specs.declared.task_id.TaskId.{TaskId}
use Rattle.turbo_config.specs.declared.entry.TaskDef.{TaskDef}
use Rattle.turbo_config.specs.declared.entry.LogMode.{LogMode}
use Rattle.turbo_config.specs.declared.entry.LogMode.TheVariants.{Full}
use Rattle.run_laws.specs.Ancestors.{part_at}
use Rattle.run_laws.specs.Valid.{IsOrdered}
use Rattle.run_laws.specs.Plans.{AreApart}
use Rattle.run_plan.specs.declared.plan.Plan.{Plan}

abbrev pub no_task : TaskId
no_task = record { «package» = []; task = [] }

-- the task at a place
abbrev pub id_at : Plan → ℕ → TaskId
id_at plan t = slice_index_or plan.ids t no_task

-- what is passed on to the command of the task beside what counts
abbrev pub given_at : Plan → ℕ → List (List ℕ × List ℕ)
given_at plan t = slice_index_or plan.given t []

abbrev pub caches_in : Option TaskDef → Bool
caches_in None = true
caches_in (Some def) = def.cache

abbrev pub logs_in : Option TaskDef → LogMode
logs_in None = Full
logs_in (Some def) = def.logs

-- results of the task may be put into the cache (`cache`)
abbrev pub caches : Plan → ℕ → Bool
caches plan t = caches_in (slice_get plan.defs t)

-- nothing is looked up for the task (`--force`, or `"cache": false`)
abbrev pub bypasses : Plan → ℕ → Bool
bypasses plan t = plan.force || not (caches plan t)

-- which of the task's lines are shown (`--output-logs`, else `outputLogs`)
abbrev pub log_mode : Plan → ℕ → LogMode
log_mode plan t = unwrap_or plan.logs (logs_in (slice_get plan.defs t))

-- Tasks, definitions, parts and given variables speak of the same tasks; the listing is in order, and its tasks keep
-- out of each other's way; the width is from 1 to 1,024.
pub record IsValidPlan (plan : Plan) : Type 0 where
  pub ids : length plan.ids ≡ length plan.listing.parts
  pub defs : length plan.defs ≡ length plan.listing.parts
  pub given : length plan.given ≡ length plan.listing.parts
  pub packages : (t : ℕ) → t < length plan.listing.parts → (id_at plan t).package ≡ (part_at plan.listing t).package
  pub tasks : (t : ℕ) → t < length plan.listing.parts → (id_at plan t).task ≡ (part_at plan.listing t).task
  pub ordered : IsOrdered plan.listing
  pub apart : AreApart plan.listing
  pub few : length plan.listing.parts < 2 ^ 32
  pub wide : 0 < plan.width
  pub narrow : plan.width ≤ width_limit
