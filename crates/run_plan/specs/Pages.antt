-- The page of a run (Turborepo docs, "run": a block for each task, and the summary).
use Rattle.std.specs.Prelude.{◌≡◌, ℕ, zero, suc, ◌==◌, Bool, false, not, ◌&&◌, List, [], ◌∷◌, ◌++◌, length, take, max, nat_lt, if◌then◌else◌}
use Rattle.sha2.specs.Sha256.{sha256}
use Rattle.listing.specs.Fingerprint.{printed}
use Rattle.turbo_config.specs.declared.task_id.TaskId.{TaskId}
use Rattle.page.specs.declared.blocks.Mark.{Mark as Printed}
use Rattle.page.specs.declared.blocks.Mark.TheVariants as printed_mark
use Rattle.page.specs.declared.blocks.Note.{Note}
use Rattle.page.specs.Blocks.{block_text}
use Rattle.page.specs.Summaries.{summary_text}
use Rattle.run_core.specs.Greedy.{count_below}
use Rattle.run_laws.specs.declared.mark.Mark.{Mark}
use Rattle.run_laws.specs.declared.mark.Mark.TheVariants.{Hit, Miss, Bypass}
use Rattle.run_laws.specs.Ancestors.{part_at, has_script}
use Rattle.run_laws.specs.Keys.{key_of}
use Rattle.run_laws.specs.Marks.{is_hit}
use Rattle.run_laws.specs.Runs.{Setting, mark_at}
use Rattle.run_plan.specs.declared.plan.Plan.{Plan}
use Rattle.run_plan.specs.declared.report.Report.{Report}
use Rattle.run_plan.specs.Plans.{id_at, log_mode}
use Rattle.run_plan.specs.Results.{effect_at}

-- what was put of a text: some first part of it, and nothing where it was not the output that failed
pub record IsCut (output_failed : Bool) (text before after : List ℕ) : Type 0 where
  pub count : ℕ
  pub none : output_failed ≡ false → count ≡ 0
  pub put : after ≡ before ++ take count text

abbrev pub page_mark : Mark → Printed
page_mark Hit = printed_mark.Hit
page_mark Miss = printed_mark.Miss
page_mark Bypass = printed_mark.Bypass

-- the digits of the fingerprint of a key
abbrev pub digits_for : List ℕ → List ℕ
digits_for key = printed (sha256 key)

-- those of the task's key
abbrev pub digits_of : Plan → ℕ → List ℕ
digits_of plan t = digits_for (key_of plan.listing t)

-- the lines of a task
abbrev pub block_of : Plan → ℕ → Report → List ℕ → List ℕ
block_of plan t report log = block_text (id_at plan t) report.mark report.digits log report.status report.note (log_mode plan t)

-- what is said of the task at the place, with this note
abbrev pub report_of : Plan → Setting → Note → ℕ → Report
report_of plan s note t = record { mark = page_mark (mark_at s t); digits = digits_of plan t; status = (effect_at s t).status; note = note }

-- the task has a block: it has a script and is reported
abbrev pub shows : Plan → (ℕ → Bool) → ℕ → Bool
shows plan reported t = has_script (part_at plan.listing t) && reported t

abbrev pub block_at : Plan → Setting → (ℕ → Note) → ℕ → List ℕ
block_at plan s notes t = block_of plan t (report_of plan s (notes t) t) (effect_at s t).log

-- the blocks of the first n places, in the order of the plan
abbrev pub blocks : Plan → Setting → (ℕ → Note) → (ℕ → Bool) → ℕ → List ℕ
blocks plan s notes reported zero = []
blocks plan s notes reported (suc n) = blocks plan s notes reported n ++ (if shows plan reported n then block_at plan s notes n else [])

-- ---- the summary

abbrev pub has_failed : Setting → ℕ → Bool
has_failed s t = not ((effect_at s t).status == 0)

-- the tasks that failed among the first n places
abbrev pub failed_tasks : Plan → Setting → (ℕ → Bool) → ℕ → List TaskId
failed_tasks plan s reported zero = []
failed_tasks plan s reported (suc n) = failed_tasks plan s reported n ++ (if shows plan reported n && has_failed s n then id_at plan n ∷ [] else [])

-- the greatest status of a task that is reported, and 0 where there is none
abbrev pub worst : Plan → Setting → (ℕ → Bool) → ℕ → ℕ
worst plan s reported zero = 0
worst plan s reported (suc n) = if shows plan reported n then max (worst plan s reported n) (effect_at s n).status else worst plan s reported n

-- reported tasks that succeeded, those that were found in the cache, and all that have a script
abbrev pub good_count : Plan → Setting → (ℕ → Bool) → ℕ
good_count plan s reported = count_below (λ t. shows plan reported t && not (has_failed s t)) (length plan.listing.parts)

abbrev pub cached_count : Plan → Setting → (ℕ → Bool) → ℕ
cached_count plan s reported = count_below (λ t. shows plan reported t && is_hit (mark_at s t)) (length plan.listing.parts)

abbrev pub script_count : Plan → ℕ
script_count plan = count_below (λ t. has_script (part_at plan.listing t)) (length plan.listing.parts)

abbrev pub summary_of : Plan → Setting → (ℕ → Bool) → List ℕ
summary_of plan s reported = summary_text (good_count plan s reported) (cached_count plan s reported) (script_count plan) (failed_tasks plan s reported (length plan.listing.parts))

-- what a page has behind the blocks of the first n places: the block of the next task, where it has one, and behind
-- all blocks the summary
abbrev pub text_behind : Plan → Setting → (ℕ → Note) → (ℕ → Bool) → ℕ → List ℕ
text_behind plan s notes reported n = if nat_lt n (length plan.listing.parts) then (if shows plan reported n then block_at plan s notes n else []) else summary_of plan s reported

-- the blocks of the reported tasks in the order of the plan, whatever the order of ends, and the summary
abbrev pub page : Plan → Setting → (ℕ → Note) → (ℕ → Bool) → List ℕ
page plan s notes reported = blocks plan s notes reported (length plan.listing.parts) ++ summary_of plan s reported
