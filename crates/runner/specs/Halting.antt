-- What calls of a run leave, whatever they answer, and what a run leaves that stops.
use Rattle.std.specs.Prelude.{◌≡◌, ℕ, ◌≤◌, true, false, List, ◌++◌, length, Option}
use Rattle.std.specs.List.{list_any}
use Rattle.rel_path.specs.Files.{FileMap}
use Rattle.tree_dev.specs.Tree.{TreeState}
use Rattle.cache_api.specs.Cache.{CacheState, Keeps}
use Rattle.cache_api.specs.Moments.{Moment}
use Rattle.cache_api.specs.Pairs.{Pair}
use Rattle.spawn_dev.specs.declared.command.Step.{Step as Told}
use Rattle.spawn_dev.specs.Spawn.{Runs, live}
use Rattle.run_core.specs.declared.states.Step.{Step}
use Rattle.run_core.specs.declared.states.State.TheVariants.{Running}
use Rattle.run_core.specs.Greedy.{ended}
use Rattle.run_plan.specs.declared.plan.Plan.{Plan}
use Rattle.run_plan.specs.Answers.{Cause, IsTornPage, SameElsewhere}
use Rattle.run_plan.specs.Halts.{HaltsWith}
use Rattle.run_plan.specs.Openings.{Opening}
use Rattle.run_plan.specs.Stories.{Now, notes_in}
use Rattle.run_plan.specs.StoryLaws.{Stands}
use Rattle.task_devices.specs.Keeping.{LastOn}
use Rattle.runner.specs.Answers.{Grows, ends_at}
use Rattle.run_board.specs.Progress.{PageIs}
use Rattle.runner.specs.Running.{AreOurs}

-- ---- whatever it answers

-- What runs are commands of the plan, steps are only added, and no file of others was changed.
pub record WorldGoes {B R : Type 0} (tells : Type 0) (plan : Plan) (old new : Runs B)
    (before after : TreeState R) : Type 0 where
  pub book : new.book ≡ old.book
  pub ours : AreOurs plan new
  pub further : tells → Grows old.steps new.steps
  pub elsewhere : tells → SameElsewhere plan before.files after.files

-- The pairs of the cache that lasted last on, at each moment.
pub record CacheGoes {D S X : Type 0} (tells : Type 0) (state : S → CacheState D)
    (moment : S → Moment) (left : S → Moment → X → Type 0) (says : D → X → Option (List Pair))
    (old new : S) : Type 0 where
  pub keeps : Keeps (state old) (state new)
  pub lasts : tells → LastOn state moment left says old new

-- ---- a run that stops

-- The command runs by the states, its end is not among these, and it will do what it would have
-- done.
pub record StillRuns {B : Type 0} (now : Now) (late : List Step) (world : Runs B) (t : ℕ)
    : Type 0 where
  pub running : now.states t ≡ Running
  pub unended : ended late t ≡ false
  pub will : world.will t ≡ now.will t

-- A run that came this far has stopped, and some of its commands may still run. Of the pairs that
-- stood there then at least so many are left.
pub record HaltsAt {B : Type 0} (plan : Plan) (o : Opening) (now : Now) (least : ℕ)
    (world : Runs B) (files : FileMap) (pairs : List Pair) (room : ℕ) : Type 0 where
  pub late : List Step
  pub halts : HaltsWith plan o now least files pairs room world.steps late
  pub runs : (t : ℕ) → live world t ≡ true → StillRuns now late world t

-- Some of them are left, among these all that lasted, and all of them where none was lost, which
-- `Kept` says.
pub record HaltsNow {B : Type 0} (plan : Plan) (o : Opening) (now : Now) (world : Runs B)
    (files : FileMap) (pairs : List Pair) (lasting room : ℕ) (Kept : Type 0) : Type 0 where
  pub least : ℕ
  pub halts : HaltsAt plan o now least world files pairs room
  pub all : Kept → length now.pairs ≤ least
  pub lasts : now.lasting ≤ lasting

-- so does each run that came this far
abbrev pub HaltsFrom : {B : Type 0} → Plan → Now → Runs B → FileMap → List Pair → ℕ → ℕ → Type 0
    → Type 0
HaltsFrom plan now world files pairs lasting room Kept =
    (o : Opening) → Stands plan o now
    → HaltsNow plan o now world files pairs lasting room Kept

-- The run has stopped where it came last, and its page is torn there.
pub record StopsNow {B : Type 0} (plan : Plan) (o : Opening) (world : Runs B) (files : FileMap)
    (pairs : List Pair) (lasting room : ℕ) (Kept : Type 0) (cause : Cause) (Heard : Type 0)
    (before after : List ℕ) : Type 0 where
  pub now : Now
  pub stands : Stands plan o now
  pub halts : HaltsNow plan o now world files pairs lasting room Kept
  pub page_is : Heard → IsTornPage plan o now.states (notes_in now.reports) cause before after

-- so does each run that came this far and printed this
abbrev pub StopsFrom : {B : Type 0} → Plan → Now → Runs B → FileMap → List Pair → ℕ → ℕ → Type 0
    → Cause → Type 0 → List ℕ → List ℕ → Type 0
StopsFrom plan now world files pairs lasting room Kept cause Heard written after =
    (o : Opening) (before : List ℕ) → Stands plan o now
    → (Heard → PageIs plan o now before written)
    → StopsNow plan o world files pairs lasting room Kept cause Heard before after

-- All that ran was waited for: where each command that ran has its end among the steps that were
-- added, nothing failed.
pub record WaitsFor {B : Type 0} (old new : Runs B) : Type 0 where
  pub late : List Told
  pub steps_are : new.steps ≡ old.steps ++ late
  pub calm : ((t : ℕ) → live old t ≡ true → list_any (ends_at t) late ≡ true)
      → new.faults ≡ old.faults
