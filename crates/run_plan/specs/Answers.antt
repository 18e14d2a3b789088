-- What a run of a plan leaves.
use Rattle.std.specs.Prelude.{◌≡◌, ◌≢◌, ◌⊎◌, ℕ, ◌+◌, ◌<◌, ◌≤◌, Bool, true, false, List, [], ◌∷◌, ◌++◌, map, filter, length, ⊤}
use Rattle.rel_path.specs.Paths.{Path}
use Rattle.rel_path.specs.Files.{FileMap}
use Rattle.globs.specs.Outputs.{takes}
use Rattle.cache_api.specs.Pairs.{Pair, AreFirst}
use Rattle.page.specs.declared.blocks.Note.{Note}
use Rattle.spawn_dev.specs.declared.command.Step.{Step as Told}
use Rattle.run_core.specs.declared.states.Step.{Step}
use Rattle.run_core.specs.declared.states.Step.TheVariants.{Start, End}
use Rattle.run_core.specs.declared.states.State.TheVariants as state
use Rattle.run_core.specs.declared.states.Next.TheVariants.{Finished}
use Rattle.run_core.specs.Greedy.{IsGreedy, HaveStatus, ended, is_reported}
use Rattle.run_core.specs.Machine.{States, next, put, is_done}
use Rattle.run_core.specs.Moves.{IsAt}
use Rattle.run_laws.specs.Ancestors.{part_at, has_script}
use Rattle.run_laws.specs.Pairs.{IsGood}
use Rattle.run_laws.specs.Plans.{log_path}
use Rattle.run_laws.specs.Worlds.{Shows, Leaves}
use Rattle.run_laws.specs.Runs.{clean_pair}
use Rattle.run_plan.specs.declared.plan.Plan.{Plan}
use Rattle.run_plan.specs.Openings.{Opening, setting_of, rules_of, tasks_of}
use Rattle.run_plan.specs.Results.{effect_at, step_of, NotedAs, stores, ends_of, told_ends, due_pairs}
use Rattle.run_plan.specs.Stories.{is_settled}
use Rattle.run_plan.specs.Pages.{IsCut, worst, blocks, text_behind, page}

-- ---- a run that came to its end

-- What a run that came to its end leaves of files, pairs, room and steps, and which status it answers.
--
-- Its steps are greedy: no command that could run waits, and commands start in the order of the plan. Each command that
-- started is that of its task, and each end is what the command does in the run without a cache. Each reported task with
-- a script left its log and owned files, and nothing else has changed. The pairs are those of the opening, and behind
-- them in the order of ends the results that were put. The answered status is the greatest.
pub record Ran (plan : Plan) (o : Opening) (files : FileMap) (pairs : List Pair) (room : ℕ)
    (steps : List Told) (Heard : Type 0) (before after : List ℕ) (status : ℕ) : Type 0 where
  pub mine : List Step
  pub notes : ℕ → Note
  pub steps_are : steps ≡ o.steps ++ map (step_of plan (setting_of plan o)) mine
  pub greedy : IsGreedy (tasks_of plan o) mine
  pub ends : HaveStatus mine (λ t. (effect_at (setting_of plan o) t).status)
  pub leaves : Leaves plan.mode o.book plan.listing (is_reported (tasks_of plan o) mine)
      o.files files
  pub noted : (t : ℕ) → NotedAs plan (setting_of plan o) room t (ended mine t) (notes t)
  pub pairs_are : pairs ≡ o.pairs ++ due_pairs plan (setting_of plan o) notes (ends_of mine)
  pub good : IsGood o.book pairs
  pub status_is : status ≡ worst plan (setting_of plan o) (is_reported (tasks_of plan o) mine)
      (length plan.listing.parts)
  pub page_is : Heard → after ≡ before
      ++ page plan (setting_of plan o) notes (is_reported (tasks_of plan o) mine)

-- ---- a run that stopped

-- What stopped a run: a device other than the output, the output, or want of memory.
pub data Cause : Type 0 where
  Device : Cause
  Output : Cause
  Memory : Cause

abbrev pub is_output : Cause → Bool
is_output Device = false
is_output Output = true
is_output Memory = false

-- what holds where a device other than the output failed
abbrev pub IfDevice : Cause → Type 0 → Type 0
IfDevice Device P = P
IfDevice Output P = ⊤
IfDevice Memory P = ⊤

-- no task was passed over: each before this place is settled, or the run is over
abbrev pub IsInTurn : Plan → States → ℕ → Type 0
IsInTurn plan states n =
    ((u : ℕ) → u < n → is_settled (states u) ≡ true) ⊎ (next (rules_of plan) states ≡ Finished)

-- no block waits to be put: the task at this place is not settled, or there is none
abbrev pub IsPrompt : Plan → States → ℕ → Type 0
IsPrompt plan states n = (is_settled (states n) ≡ false) ⊎ (n ≡ length plan.listing.parts)

-- The page of a run that stopped at these states: the blocks of the tasks that were done by then, in the order of the
-- plan and none passed over, each whole and that of the run without a cache, with the note that its result got; and where
-- it was the output that failed, of what follows some first part. Where another device failed, no block waits to be put.
pub record IsTornPage (plan : Plan) (o : Opening) (states : States) (notes : ℕ → Note)
    (cause : Cause) (before after : List ℕ) : Type 0 where
  pub shown : ℕ
  pub within : shown ≤ length plan.listing.parts
  pub in_turn : IsInTurn plan states shown
  pub prompt : IfDevice cause (IsPrompt plan states shown)
  pub cut : IsCut (is_output cause)
      (text_behind plan (setting_of plan o) notes (λ t. is_done (states t)) shown)
      (before ++ blocks plan (setting_of plan o) notes (λ t. is_done (states t)) shown) after

-- ends of commands that run in these states, each once
abbrev pub AreLate : States → List Step → Type 0
AreLate states [] = ⊤
AreLate states (Start t ∷ steps) = ⊥
AreLate states (End t x ∷ steps) =
    (states t ≡ state.Running) × AreLate (put states t (state.Ended x)) steps

-- What a run leaves of files, pairs and steps that stopped at these states, with these notes of the ends that it dealt
-- with.
--
-- `mine` are the steps that it dealt with, by the rules of the scheduler, up to the states. Behind them stand only ends of
-- commands that ran then, each what the command does in the run without a cache. Each task that was done has left its log
-- and owned files. The pairs are those of the opening, and behind them in the order of ends some first part of the results
-- that these ends add. Where what was due had been put when the run stopped, which `kept` says, these are at least the
-- results of the ends that it dealt with.
pub record StopsAt (plan : Plan) (o : Opening) (kept : Type 0) (states : States)
    (notes : ℕ → Note) (files : FileMap) (pairs : List Pair) (room : ℕ) (steps : List Told)
    : Type 0 where
  pub mine : List Step
  pub at : IsAt (tasks_of plan o) states mine
  pub late : List Step
  pub late_are : AreLate states late
  pub steps_are : steps ≡ o.steps ++ map (step_of plan (setting_of plan o)) (mine ++ late)
  pub ends : HaveStatus (mine ++ late) (λ t. (effect_at (setting_of plan o) t).status)
  pub leaves : (t : ℕ) → has_script (part_at plan.listing t) ≡ true → is_done (states t) ≡ true
      → Shows plan.mode o.book plan.listing t files
  pub noted : (t : ℕ) → NotedAs plan (setting_of plan o) room t (ended mine t) (notes t)
  pub least : ℕ
  pub least_is : length o.pairs ≤ least
  pub pairs_are : AreFirst least (o.pairs ++ due_pairs plan (setting_of plan o) notes
      (ends_of (mine ++ late))) pairs
  pub all : kept
      → length o.pairs + length (due_pairs plan (setting_of plan o) notes (ends_of mine)) ≤ least
  pub good : IsGood o.book pairs

-- What a run that did not come to its end leaves, and the page that it has printed by then. `kept` says that what was due
-- had been put when it stopped.
pub record Stopped (plan : Plan) (o : Opening) (kept : Type 0) (files : FileMap)
    (pairs : List Pair) (room : ℕ) (steps : List Told) (cause : Cause) (Heard : Type 0)
    (before after : List ℕ) : Type 0 where
  pub states : States
  pub notes : ℕ → Note
  pub stops : StopsAt plan o kept states notes files pairs room steps
  pub page_is : Heard → IsTornPage plan o states notes cause before after

-- ---- at each moment

-- What the pairs are that a run may have left in the cache at some moment: behind those of the opening some first part
-- of those that its ends add, and all are good. `mine` are the steps that it had dealt with by then; the result of each
-- end behind them counts as one that is put.
pub record IsSafe (plan : Plan) (o : Opening) (room : ℕ) (steps : List Told)
    (pairs : List Pair) : Type 0 where
  pub mine : List Step
  pub late : List Told
  pub steps_are : steps ≡ o.steps ++ (map (step_of plan (setting_of plan o)) mine ++ late)
  pub notes : ℕ → Note
  pub noted : (t : ℕ) → NotedAs plan (setting_of plan o) room t (ended mine t) (notes t)
  pub put : List ℕ
  pub unput : List ℕ
  pub due : filter (stores plan (setting_of plan o) notes) (ends_of mine ++ told_ends late)
      ≡ put ++ unput
  pub pairs_are : pairs ≡ o.pairs ++ map (clean_pair (setting_of plan o)) put
  pub good : IsGood o.book pairs

-- ---- files of others

-- every path that no task with a script owns, and that is no log file of one, is as before
abbrev pub SameElsewhere : Plan → FileMap → FileMap → Type 0
SameElsewhere plan old new = (path : Path)
    → ((t : ℕ) → has_script (part_at plan.listing t) ≡ true
    → (takes (part_at plan.listing t).outs path ≡ false)
    × (path ≢ log_path (part_at plan.listing t)))
    → new path ≡ old path

-- every path that no task with a script owns which is not done, and that is no log file of one, is as before
abbrev pub OnlyUndone : Plan → States → FileMap → FileMap → Type 0
OnlyUndone plan states old new = (path : Path)
    → ((t : ℕ) → has_script (part_at plan.listing t) ≡ true → is_done (states t) ≡ false
    → (takes (part_at plan.listing t).outs path ≡ false)
    × (path ≢ log_path (part_at plan.listing t)))
    → new path ≡ old path
