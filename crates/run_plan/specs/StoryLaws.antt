-- What each move of a run does to its story, and what the story gives.
use Rattle.std.specs.Prelude.{◌≡◌, ◌≢◌, ◌⊎◌, ℕ, ◌+◌, ◌<◌, ◌≤◌, ◌==◌, Bool, true, false, ◌&&◌, List, [], ◌∷◌, ◌++◌, map, length, Some, None, MatchBool, if◌then◌else◌}
use Rattle.rel_path.specs.Files.{FileMap, file_at, over}
use Rattle.globs.specs.OwnedFiles.{cleared, restored}
use Rattle.cache_api.specs.Artifacts.{Artifact}
use Rattle.cache_api.specs.Pairs.{Pair}
use Rattle.page.specs.declared.blocks.Mark.TheVariants as printed_mark
use Rattle.page.specs.declared.blocks.Note.{Note}
use Rattle.page.specs.declared.blocks.Note.TheVariants.{Stored}
use Rattle.spawn_dev.specs.declared.effect.Effect.{Effect}
use Rattle.spawn_dev.specs.declared.command.Ended.{Ended}
use Rattle.spawn_dev.specs.declared.command.Step.TheVariants as told
use Rattle.spawn_dev.specs.Effects.{seen_by}
use Rattle.spawn_dev.specs.Spawn.{put_at}
use Rattle.run_core.specs.declared.states.Step.{Step}
use Rattle.run_core.specs.declared.states.State.TheVariants.{Waiting, Missed, Running, Passed}
use Rattle.run_core.specs.declared.states.Next.TheVariants.{Lookup, Start, WaitFirst, Finished}
use Rattle.run_core.specs.Greedy.{IsGreedy, HaveStatus, ended, is_reported}
use Rattle.run_core.specs.Machine.{States, next, put, after_end, is_done, has_failed, IsCalm}
use Rattle.run_laws.specs.Ancestors.{part_at, has_script, is_above}
use Rattle.run_laws.specs.Keys.{key_of}
use Rattle.run_laws.specs.Marks.{found_for}
use Rattle.run_laws.specs.Pairs.{IsGood}
use Rattle.run_laws.specs.Worlds.{logged, seen_in, Leaves}
use Rattle.run_laws.specs.Runs.{IsReady}
use Rattle.run_plan.specs.declared.plan.Plan.{Plan}
use Rattle.run_plan.specs.declared.report.Report.{Report}
use Rattle.run_plan.specs.Plans.{IsValidPlan, caches, bypasses}
use Rattle.run_plan.specs.Commands.{command_of}
use Rattle.run_plan.specs.Openings.{Opening, setting_of, rules_of, tasks_of}
use Rattle.run_plan.specs.Results.{effect_at, step_of, KeptAs, NotedAs, ends_of, due_pairs}
use Rattle.run_plan.specs.Pages.{digits_of, block_of, blocks, summary_of, worst, page}
use Rattle.run_plan.specs.Reports.{worst_by, summary_by}
use Rattle.run_plan.specs.Stories.{Now, Story, notes_in}

-- what the command of the task sees is what the listing says
abbrev pub Sees : Plan → ℕ → Type 0
Sees plan t = (files : FileMap) → seen_by (command_of plan t) files ≡ seen_in plan.listing t files

-- a valid plan over an opening that is ready for it, and a run of it that came this far
pub record Stands (plan : Plan) (o : Opening) (now : Now) : Type 0 where
  pub valid : IsValidPlan plan
  pub ready : IsReady (setting_of plan o)
  pub story : Story plan o now

-- whether all ancestors of the task came to a good end
pub record TellsGood (plan : Plan) (states : States) (t : ℕ) (sound : Bool) : Type 0 where
  pub good : sound ≡ true → (a : ℕ) → is_above plan.listing t a ≡ true → (is_done (states a) ≡ true) × (has_failed (states a) ≡ false)
  pub bad : sound ≡ false → (a : ℕ) × (is_above plan.listing t a ≡ true) × (has_failed (states a) ≡ true)

-- the result of an end is to be put
abbrev pub to_put : Plan → Bool → ℕ → ℕ → Bool
to_put plan sound t status = sound && ((status == 0) && caches plan t)

-- what came of the result of an end: it was kept, or is not to be put
abbrev pub KeptIf : Bool → Type 0 → Note → List Pair → List Pair → Type 0
KeptIf put Kept note before after = MatchBool put Kept ((note ≡ Stored) × (after ≡ before))

-- The end of a command that runs, as its effect says; `sound` tells whether its ancestors came to a good end.
pub record EndsNow (plan : Plan) (now : Now) (end : Ended) (sound : Bool) : Type 0 where
  pub running : now.states end.place ≡ Running
  pub status : end.status ≡ (now.will end.place).status
  pub log : end.log ≡ (now.will end.place).log
  pub sound_is : TellsGood plan now.states end.place sound

-- Such an end, whose log was written, and whose result was kept. No fewer of the pairs last than before.
pub record EndIs (plan : Plan) (now : Now) (end : Ended) (sound : Bool) (note : Note)
    (pairs : List Pair) (lasting room : ℕ) (report : Report) : Type 0 where
  pub ends : EndsNow plan now end sound
  pub kept : KeptIf (to_put plan sound end.place end.status)
      (KeptAs (logged (part_at plan.listing end.place) end.log
      (over now.files (file_at (now.will end.place).files)))
      (part_at plan.listing end.place).outs plan.limit (key_of plan.listing end.place) end.log
      now.pairs room pairs note)
      note now.pairs pairs
  pub lasts : now.lasting ≤ lasting
  pub within : lasting ≤ length pairs
  pub less : room ≤ now.room
  pub report_is : report ≡ record {
    mark = if bypasses plan end.place then printed_mark.Bypass else printed_mark.Miss;
    digits = digits_of plan end.place;
    status = end.status;
    note = note;
  }

-- where the run is after such an end
abbrev pub after_this : Plan → Now → Ended → (ℕ → Effect) → List Pair → ℕ → ℕ → Report → Now
after_this plan now end will pairs lasting room report = record {
  states = after_end (rules_of plan) now.states end.place end.status;
  book = now.book;
  steps = now.steps ++ told.End end ∷ [];
  will = will;
  files = logged (part_at plan.listing end.place) end.log (over now.files (file_at (now.will end.place).files));
  pairs = pairs;
  lasting = lasting;
  room = room;
  reports = put_at now.reports end.place (Some report);
  logs = put_at now.logs end.place end.log;
  shown = now.shown;
}

-- the blocks of the first n places, as far as the run is
abbrev pub blocks_upto : Plan → Opening → Now → ℕ → List ℕ
blocks_upto plan o now n = blocks plan (setting_of plan o) (notes_in now.reports) (λ t. is_done (now.states t)) n

-- What a run that is over has left, as `Ran` says it; reported are the tasks that are done.
pub record Over (plan : Plan) (o : Opening) (now : Now) : Type 0 where
  pub mine : List Step
  pub steps_are : now.steps ≡ o.steps ++ map (step_of plan (setting_of plan o)) mine
  pub greedy : IsGreedy (tasks_of plan o) mine
  pub ends : HaveStatus mine (λ t. (effect_at (setting_of plan o) t).status)
  pub leaves : Leaves plan.mode o.book plan.listing (is_reported (tasks_of plan o) mine) o.files now.files
  pub noted : (t : ℕ) → NotedAs plan (setting_of plan o) now.room t (ended mine t) (notes_in now.reports t)
  pub pairs_are : now.pairs ≡ o.pairs ++ due_pairs plan (setting_of plan o) (notes_in now.reports) (ends_of mine)
  pub good : IsGood o.book now.pairs
  pub worst_is : worst_by now.reports (length plan.listing.parts) ≡ worst plan (setting_of plan o) (is_reported (tasks_of plan o) mine) (length plan.listing.parts)
  pub page_is : blocks_upto plan o now (length plan.listing.parts) ++ summary_by plan now.reports ≡ page plan (setting_of plan o) (notes_in now.reports) (is_reported (tasks_of plan o) mine)

pub record StoryLaw : Type 0 where
  -- at the opening
  pub first : (plan : Plan) (o : Opening) (will : ℕ → Effect) (room : ℕ) (logs : ℕ → List ℕ)
      → Story plan o (record { states = λ t. Waiting; book = o.book; steps = o.steps; will = will; files = o.files; pairs = o.pairs; lasting = length o.pairs; room = room; reports = λ t. None; logs = logs; shown = 0 })
  -- less room
  pub less : (plan : Plan) (o : Opening) (now : Now) (room : ℕ) → Stands plan o now → room ≤ now.room → Story plan o (record now { room = room })
  -- a task without a script is passed over
  pub pass : (plan : Plan) (o : Opening) (now : Now) (t : ℕ) → Stands plan o now → next (rules_of plan) now.states ≡ Lookup t → has_script (part_at plan.listing t) ≡ false
      → Story plan o (record now { states = put now.states t Passed })
  -- nothing is looked up or found for a task
  pub miss : (plan : Plan) (o : Opening) (now : Now) (t room : ℕ) → Stands plan o now → next (rules_of plan) now.states ≡ Lookup t → has_script (part_at plan.listing t) ≡ true
      → room ≤ now.room → (bypasses plan t ≡ true) ⊎ (found_for now.pairs plan.listing t ≡ None)
      → Story plan o (record now { states = put now.states t Missed; room = room })
  -- an artifact is found for a task, and is put back with its log
  pub hit : (plan : Plan) (o : Opening) (now : Now) (t room : ℕ) (artifact : Artifact) → Stands plan o now → next (rules_of plan) now.states ≡ Lookup t → has_script (part_at plan.listing t) ≡ true
      → room ≤ now.room → bypasses plan t ≡ false → found_for now.pairs plan.listing t ≡ Some artifact
      → Story plan o (record now {
        states = put now.states t Passed;
        files = logged (part_at plan.listing t) artifact.0 (restored (part_at plan.listing t).outs artifact.1 now.files);
        room = room;
        reports = put_at now.reports t (Some (record { mark = printed_mark.Hit; digits = digits_of plan t; status = 0; note = Stored }));
        logs = put_at now.logs t artifact.0;
      })
  -- the command of a task starts
  pub start : (plan : Plan) (o : Opening) (now : Now) (t : ℕ) (will : ℕ → Effect) → Stands plan o now → IsCalm (rules_of plan) now.states → next (rules_of plan) now.states ≡ Start t
      → will t ≡ now.book (seen_by (command_of plan t) (cleared (part_at plan.listing t).outs now.files))
      → ((u : ℕ) → now.states u ≡ Running → will u ≡ now.will u)
      → Story plan o (record now {
        states = put now.states t Running;
        steps = now.steps ++ told.Start (command_of plan t) ∷ [];
        will = will;
        files = cleared (part_at plan.listing t).outs now.files;
      })
  -- a command ends
  pub end : (plan : Plan) (o : Opening) (now : Now) (end : Ended) (sound : Bool) (note : Note) (will : ℕ → Effect) (pairs : List Pair) (lasting room : ℕ) (report : Report)
      → Stands plan o now → IsCalm (rules_of plan) now.states → next (rules_of plan) now.states ≡ WaitFirst → EndIs plan now end sound note pairs lasting room report
      → ((u : ℕ) → u ≢ end.place → now.states u ≡ Running → will u ≡ now.will u)
      → Story plan o (after_this plan now end will pairs lasting room report)
  -- more of the pairs last
  pub settles : (plan : Plan) (o : Opening) (now : Now) (lasting : ℕ) → Stands plan o now → now.lasting ≤ lasting → lasting ≤ length now.pairs
      → Story plan o (record now { lasting = lasting })
  -- nothing is left to do
  pub over : (plan : Plan) (o : Opening) (now : Now) → Stands plan o now → next (rules_of plan) now.states ≡ Finished → Over plan o now
  -- the block of the next task is put, or it has none
  pub show : (plan : Plan) (o : Opening) (now : Now) (report : Report) → Stands plan o now → now.reports now.shown ≡ Some report
      → blocks_upto plan o now (now.shown + 1) ≡ blocks_upto plan o now now.shown ++ block_of plan now.shown report (now.logs now.shown)
  pub hide : (plan : Plan) (o : Opening) (now : Now) → Stands plan o now → now.reports now.shown ≡ None → blocks_upto plan o now (now.shown + 1) ≡ blocks_upto plan o now now.shown
  pub shown : (plan : Plan) (o : Opening) (now : Now) (logs : ℕ → List ℕ) → Stands plan o now → ((u : ℕ) → u ≢ now.shown → logs u ≡ now.logs u)
      → Story plan o (record now { logs = logs; shown = now.shown + 1 })
  -- what the reports say of all tasks is what the tasks that are done say
  pub summary : (plan : Plan) (o : Opening) (now : Now) → Stands plan o now → summary_by plan now.reports ≡ summary_of plan (setting_of plan o) (λ t. is_done (now.states t))
  -- what was put stays as it is
  pub kept : (plan : Plan) (o : Opening) (now later : Now) (n : ℕ) → ((u : ℕ) → u < n → (later.states u ≡ now.states u) × (later.reports u ≡ now.reports u)) → blocks_upto plan o later n ≡ blocks_upto plan o now n
