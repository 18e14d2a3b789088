-- How a run stops: what was done since it stood last, and which pairs it may leave at each moment.
use Rattle.std.specs.Prelude.{◌≡◌, ◌⊎◌, ℕ, ◌≤◌, Bool, true, false, List, [], ◌∷◌, ◌++◌, length, map}
use Rattle.rel_path.specs.Files.{FileMap, file_at, over}
use Rattle.cache_api.specs.Artifacts.{File}
use Rattle.cache_api.specs.Pairs.{Pair, pair_for, AreFirst}
use Rattle.spawn_dev.specs.declared.command.Ended.{Ended}
use Rattle.spawn_dev.specs.declared.command.Step.{Step as Told}
use Rattle.spawn_dev.specs.declared.command.Step.TheVariants as told
use Rattle.run_core.specs.declared.states.Step.{Step}
use Rattle.run_core.specs.declared.states.Step.TheVariants.{End}
use Rattle.run_core.specs.declared.states.State.TheVariants.{Running}
use Rattle.run_core.specs.Greedy.{HaveStatus, started, ended}
use Rattle.run_core.specs.Machine.{IsCalm}
use Rattle.run_laws.specs.Ancestors.{part_at}
use Rattle.run_laws.specs.Keys.{key_of}
use Rattle.run_laws.specs.Worlds.{logged}
use Rattle.run_plan.specs.declared.plan.Plan.{Plan}
use Rattle.run_plan.specs.Openings.{Opening, setting_of, rules_of}
use Rattle.run_plan.specs.Results.{effect_at, step_of, Taken, ends_of, due_pairs}
use Rattle.run_plan.specs.Answers.{AreLate, StopsAt, IsSafe, OnlyUndone}
use Rattle.run_plan.specs.Stories.{Now, notes_in}
use Rattle.run_plan.specs.StoryLaws.{Stands, EndsNow, to_put}

-- What was done since the run stood at `now`, when a turn of it failed: commands that ran have ended. The pairs are some
-- first part of those that stood there then with what these ends add behind them: at least so many of those that stood
-- there, and so all that lasted. Files of tasks that were done are as they were.
pub record Halts (plan : Plan) (o : Opening) (now : Now) (least : ℕ) (files : FileMap)
    (pairs : List Pair) (room : ℕ) (steps : List Told) : Type 0 where
  pub late : List Step
  pub late_are : AreLate now.states late
  pub steps_are : steps ≡ now.steps ++ map (step_of plan (setting_of plan o)) late
  pub ends : HaveStatus late (λ t. (effect_at (setting_of plan o) t).status)
  pub undone : OnlyUndone plan now.states now.files files
  pub less : room ≤ now.room
  pub least_is : now.lasting ≤ least
  pub within : least ≤ length now.pairs
  pub pairs_are : AreFirst least (now.pairs ++ due_pairs plan (setting_of plan o)
      (notes_in now.reports) (ends_of late)) pairs

-- the same, where exactly these ends came
pub record HaltsWith (plan : Plan) (o : Opening) (now : Now) (least : ℕ) (files : FileMap)
    (pairs : List Pair) (room : ℕ) (steps : List Told) (late : List Step) : Type 0 where
  pub halts : Halts plan o now least files pairs room steps
  pub late_is : halts.late ≡ late

-- the result of an end was put behind the pairs
pub record IsPut (plan : Plan) (now : Now) (end : Ended) (sound : Bool)
    (pairs : List Pair) : Type 0 where
  pub may : to_put plan sound end.place end.status ≡ true
  pub taken : List File
  pub taken_are : Taken (logged (part_at plan.listing end.place) end.log
      (over now.files (file_at (now.will end.place).files)))
      (part_at plan.listing end.place).outs plan.limit taken
  pub pairs_are : pairs ≡ now.pairs
      ++ pair_for (key_of plan.listing end.place) (end.log, taken) ∷ []

-- it was put or not
abbrev pub MayBePut : Plan → Now → Ended → Bool → List Pair → Type 0
MayBePut plan now end sound pairs = (pairs ≡ now.pairs) ⊎ IsPut plan now end sound pairs

-- What is kept of a run that stops, and of the pairs at each moment.
pub record HaltLaw : Type 0 where
  -- a turn failed before a command ended
  pub before_end : (plan : Plan) (o : Opening) (now : Now) (least : ℕ) (files : FileMap)
      (pairs : List Pair) (room : ℕ)
      → Stands plan o now → OnlyUndone plan now.states now.files files
      → now.lasting ≤ least → least ≤ length now.pairs → AreFirst least now.pairs pairs
      → room ≤ now.room → HaltsWith plan o now least files pairs room now.steps []
  -- a turn failed behind the end of a command
  pub at_end : (plan : Plan) (o : Opening) (now : Now) (end : Ended) (sound : Bool)
      (least : ℕ) (files : FileMap) (added pairs : List Pair) (room : ℕ)
      → Stands plan o now → IsCalm (rules_of plan) now.states → EndsNow plan now end sound
      → OnlyUndone plan now.states now.files files → MayBePut plan now end sound added
      → now.lasting ≤ least → least ≤ length now.pairs → AreFirst least added pairs
      → room ≤ now.room
      → HaltsWith plan o now least files pairs room (now.steps ++ told.End end ∷ [])
      (End end.place end.status ∷ [])
  -- another command ends behind these
  pub behind : (plan : Plan) (o : Opening) (now : Now) (least : ℕ) (files later : FileMap)
      (pairs : List Pair) (room : ℕ) (steps : List Told) (late : List Step) (end : Ended)
      → Stands plan o now → HaltsWith plan o now least files pairs room steps late
      → now.states end.place ≡ Running → ended late end.place ≡ false
      → end.status ≡ (now.will end.place).status → end.log ≡ (now.will end.place).log
      → OnlyUndone plan now.states files later
      → HaltsWith plan o now least later pairs room (steps ++ told.End end ∷ [])
      (late ++ End end.place end.status ∷ [])
  -- a command runs no more, of which no end is told
  pub unsaid : (plan : Plan) (o : Opening) (now : Now) (least : ℕ) (files later : FileMap)
      (pairs : List Pair) (room : ℕ) (steps : List Told) (late : List Step)
      → HaltsWith plan o now least files pairs room steps late
      → OnlyUndone plan now.states files later
      → HaltsWith plan o now least later pairs room steps late
  -- of the pairs some first part is left, with all that lasted
  pub fewer : (plan : Plan) (o : Opening) (now : Now) (least fewest : ℕ) (files : FileMap)
      (pairs later : List Pair) (room : ℕ) (steps : List Told) (late : List Step)
      → HaltsWith plan o now least files pairs room steps late
      → now.lasting ≤ fewest → fewest ≤ least → AreFirst fewest pairs later
      → HaltsWith plan o now fewest files later room steps late
  -- so the run has stopped where it stood last
  pub stopped : (plan : Plan) (o : Opening) (now : Now) (least : ℕ) (files : FileMap)
      (pairs : List Pair) (room : ℕ) (steps : List Told) → Stands plan o now
      → Halts plan o now least files pairs room steps
      → StopsAt plan o (length now.pairs ≤ least) now.states (notes_in now.reports) files pairs
      room steps
  -- a command that runs was started, and has no end
  pub runs : (plan : Plan) (o : Opening) (now : Now) (t : ℕ) (story : Stands plan o now)
      → now.states t ≡ Running
      → (started story.story.mine t ≡ true) × (ended story.story.mine t ≡ false)
  -- the pairs at each moment
  pub safe : (plan : Plan) (o : Opening) (now : Now) (pairs : List Pair) → Stands plan o now
      → AreFirst now.lasting now.pairs pairs → IsSafe plan o now.room now.steps pairs
  pub safe_at_end : (plan : Plan) (o : Opening) (now : Now) (end : Ended) (sound : Bool)
      (added pairs : List Pair) → Stands plan o now → IsCalm (rules_of plan) now.states
      → EndsNow plan now end sound → MayBePut plan now end sound added
      → AreFirst now.lasting added pairs
      → IsSafe plan o now.room (now.steps ++ told.End end ∷ []) pairs
  pub safe_later : (plan : Plan) (o : Opening) (room less : ℕ) (steps more : List Told)
      (pairs : List Pair) → less ≤ room → IsSafe plan o room steps pairs
      → IsSafe plan o less (steps ++ more) pairs
