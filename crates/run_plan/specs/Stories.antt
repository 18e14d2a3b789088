-- How a run of a plan came to where it is: the moves of the scheduler and those of the files and the cache, in step.
use Rattle.std.specs.Prelude.{◌≡◌, ℕ, ◌≤◌, Bool, true, false, ◌&&◌, List, ◌++◌, map, filter, length, Option, Some, None}
use Rattle.rel_path.specs.Files.{FileMap}
use Rattle.cache_api.specs.Pairs.{Pair}
use Rattle.page.specs.declared.blocks.Note.{Note}
use Rattle.page.specs.declared.blocks.Note.TheVariants.{Stored}
use Rattle.spawn_dev.specs.declared.effect.Effect.{Effect}
use Rattle.spawn_dev.specs.declared.command.Step.{Step as Told}
use Rattle.run_core.specs.declared.states.Step.{Step}
use Rattle.run_core.specs.declared.states.State.{State}
use Rattle.run_core.specs.declared.states.State.TheVariants as state
use Rattle.run_core.specs.Machine.{States, is_done}
use Rattle.run_core.specs.Moves.{IsAt}
use Rattle.run_laws.specs.Ancestors.{part_at, has_script}
use Rattle.run_laws.specs.Effects.{Book}
use Rattle.run_laws.specs.Worlds.Stage.{Untouched, Running, Finished}
use Rattle.run_laws.specs.Worlds.{Stage}
use Rattle.run_laws.specs.Runs.{Progress, Move, Leads, opening, puts_of}
use Rattle.run_plan.specs.declared.plan.Plan.{Plan}
use Rattle.run_plan.specs.declared.report.Report.{Report}
use Rattle.run_plan.specs.Openings.{Opening, setting_of, tasks_of}
use Rattle.run_plan.specs.Results.{effect_at, step_of, NotedAs, stores, ends_of}
use Rattle.run_plan.specs.Pages.{report_of}

-- How far a run is, as its scheduler, its devices and its table of reports tell it. Of the pairs the first ones last,
-- whatever crashes.
pub record Now : Type 0 where
  pub states : States
  pub book : Book
  pub steps : List Told
  pub will : ℕ → Effect
  pub files : FileMap
  pub pairs : List Pair
  pub lasting : ℕ
  pub room : ℕ
  pub reports : ℕ → Option Report
  pub logs : ℕ → List ℕ
  pub shown : ℕ

-- what the files show of a task in this state
abbrev pub stage_of : State → Stage
stage_of state.Waiting = Untouched
stage_of state.Missed = Untouched
stage_of state.Running = Running
stage_of state.Passed = Finished 0
stage_of (state.Ended status) = Finished status
stage_of state.Left = Untouched

abbrev pub has_ended : State → Bool
has_ended state.Waiting = false
has_ended state.Missed = false
has_ended state.Running = false
has_ended state.Passed = false
has_ended (state.Ended status) = true
has_ended state.Left = false

-- nothing more becomes of the task
abbrev pub is_settled : State → Bool
is_settled state.Waiting = false
is_settled state.Missed = false
is_settled state.Running = false
is_settled state.Passed = true
is_settled (state.Ended status) = true
is_settled state.Left = true

abbrev pub progress_of : States → FileMap → List Pair → (ℕ → Effect) → Progress
progress_of states files pairs will = record { stages = λ t. stage_of (states t); files = files; pairs = pairs; will = will }

abbrev pub note_in : Option Report → Note
note_in None = Stored
note_in (Some report) = report.note

abbrev pub notes_in : (ℕ → Option Report) → ℕ → Note
notes_in reports t = note_in (reports t)

-- the task has a block
abbrev pub shows_now : Plan → Now → ℕ → Bool
shows_now plan now t = has_script (part_at plan.listing t) && is_done (now.states t)

-- a task with a block has its report, another one has none
abbrev pub ReportsAs : Report → Bool → Option Report → Type 0
ReportsAs report false o = o ≡ None
ReportsAs report true o = o ≡ Some report

-- Moves of the scheduler lead to its states and steps, and moves of the files and the cache lead to these, each with
-- what the states say of its task. All pairs of the opening last.
pub record Story (plan : Plan) (o : Opening) (now : Now) : Type 0 where
  pub book : now.book ≡ o.book
  pub mine : List Step
  pub steps : now.steps ≡ o.steps ++ map (step_of plan (setting_of plan o)) mine
  pub at : IsAt (tasks_of plan o) now.states mine
  pub moves : List Move
  pub will : ℕ → Effect
  pub leads : Leads (setting_of plan o) (opening (setting_of plan o)) moves (progress_of now.states now.files now.pairs will)
  pub will_is : (t : ℕ) → now.states t ≡ state.Running → now.will t ≡ will t
  pub puts : puts_of moves ≡ filter (stores plan (setting_of plan o) (notes_in now.reports)) (ends_of mine)
  pub lasts : length o.pairs ≤ now.lasting
  pub within : now.lasting ≤ length now.pairs
  pub reports : (t : ℕ) → ReportsAs (report_of plan (setting_of plan o) (notes_in now.reports t) t) (shows_now plan now t) (now.reports t)
  pub noted : (t : ℕ) → NotedAs plan (setting_of plan o) now.room t (has_ended (now.states t)) (notes_in now.reports t)
  pub logs : (t : ℕ) → shows_now plan now t ≡ true → now.shown ≤ t → now.logs t ≡ (effect_at (setting_of plan o) t).log
