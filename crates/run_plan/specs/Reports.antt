-- What reports say of a run, and the page by them.
use Rattle.std.specs.Prelude.{ℕ, zero, suc, ◌==◌, Bool, true, false, not, List, [], ◌∷◌, ◌++◌, length, slice_get, max, Option, Some, None, if◌then◌else◌}
use Rattle.turbo_config.specs.declared.task_id.TaskId.{TaskId}
use Rattle.page.specs.declared.blocks.Mark.{Mark}
use Rattle.page.specs.declared.blocks.Mark.TheVariants.{Hit, Miss, Bypass}
use Rattle.page.specs.Summaries.{summary_text}
use Rattle.run_core.specs.Greedy.{count_below}
use Rattle.run_plan.specs.declared.plan.Plan.{Plan}
use Rattle.run_plan.specs.declared.report.Report.{Report}
use Rattle.run_plan.specs.Plans.{id_at}
use Rattle.run_plan.specs.Pages.{script_count}

abbrev pub flat : Option (Option Report) → Option Report
flat None = None
flat (Some o) = o

-- the report at a place of a table
abbrev pub report_in : List (Option Report) → ℕ → Option Report
report_in table t = flat (slice_get table t)

abbrev pub succeeded : Option Report → Bool
succeeded None = false
succeeded (Some report) = report.status == 0

abbrev pub failed : Option Report → Bool
failed None = false
failed (Some report) = not (report.status == 0)

abbrev pub is_cached : Mark → Bool
is_cached Hit = true
is_cached Miss = false
is_cached Bypass = false

abbrev pub was_cached : Option Report → Bool
was_cached None = false
was_cached (Some report) = is_cached report.mark

abbrev pub status_in : Option Report → ℕ
status_in None = 0
status_in (Some report) = report.status

-- the tasks that failed among the first n places
abbrev pub failed_by : Plan → (ℕ → Option Report) → ℕ → List TaskId
failed_by plan reports zero = []
failed_by plan reports (suc n) = failed_by plan reports n ++ (if failed (reports n) then id_at plan n ∷ [] else [])

-- the greatest status
abbrev pub worst_by : (ℕ → Option Report) → ℕ → ℕ
worst_by reports zero = 0
worst_by reports (suc n) = max (worst_by reports n) (status_in (reports n))

unfoldable pub summary_by : Plan → (ℕ → Option Report) → List ℕ
summary_by plan reports =
    summary_text (count_below (λ t. succeeded (reports t)) (length plan.listing.parts)) (count_below (λ t. was_cached (reports t)) (length plan.listing.parts)) (script_count plan) (failed_by plan reports (length plan.listing.parts))
