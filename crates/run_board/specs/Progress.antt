-- How far a run is, and its page by then.
use Rattle.std.specs.Prelude.{◌≡◌, ℕ, List, [], ◌++◌, Option, Some, None}
use Rattle.tree_dev.specs.Tree.{TreeState}
use Rattle.cache_api.specs.Cache.{CacheState}
use Rattle.cache_api.specs.Pairs.{Pair}
use Rattle.spawn_dev.specs.declared.effect.Effect.{Effect}
use Rattle.spawn_dev.specs.Effects.{Seen}
use Rattle.spawn_dev.specs.Spawn.{Runs}
use Rattle.run_core.specs.Core.{states}
use Rattle.run_plan.specs.declared.plan.Plan.{Plan}
use Rattle.run_plan.specs.declared.report.Report.{Report}
use Rattle.run_plan.specs.Answers.{Cause, IsInTurn, IsTornPage}
use Rattle.run_plan.specs.Openings.{Opening}
use Rattle.run_plan.specs.Pages.{block_of}
use Rattle.run_plan.specs.Reports.{report_in}
use Rattle.run_plan.specs.Stories.{Now, notes_in}
use Rattle.run_plan.specs.StoryLaws.{Stands, blocks_upto}
use Rattle.run_board.specs.declared.board.Board.{Board}
use Rattle.run_board.specs.Tables.{log_in}

-- how far a run is, by its tables, its world, its pairs, how many of these last, and its room
abbrev pub now_at : {B R : Type 0} → Board → (B → Seen → Effect) → Runs B → TreeState R
    → List Pair → ℕ → ℕ → Now
now_at board effect world tree pairs lasting room = record {
  states = states board.core;
  book = effect world.book;
  steps = world.steps;
  will = world.will;
  files = tree.files;
  pairs = pairs;
  lasting = lasting;
  room = room;
  reports = report_in board.reports;
  logs = log_in board.logs;
  shown = board.shown;
}

-- the same by its cache
abbrev pub now_of : {B R D : Type 0} → Board → (B → Seen → Effect) → Runs B → TreeState R
    → CacheState D → Now
now_of board effect world tree cache =
    now_at board effect world tree cache.pairs cache.lasting cache.room

-- the same with these tables
abbrev pub with_board : Now → Board → Now
with_board now board = record now {
  states = states board.core;
  reports = report_in board.reports;
  logs = log_in board.logs;
  shown = board.shown;
}

-- a run that came to the first came to the second
abbrev pub StaysOn : Plan → Now → Now → Type 0
StaysOn plan was now = (o : Opening) → Stands plan o was → Stands plan o now

-- ---- the page

-- what was put are the blocks of the tasks before the next one to be shown
abbrev pub PageIs : Plan → Opening → Now → List ℕ → List ℕ → Type 0
PageIs plan o now before written = written ≡ before ++ blocks_upto plan o now now.shown

-- so it was, and so it is
abbrev pub PageGoesOn : Plan → Now → Now → List ℕ → List ℕ → Type 0
PageGoesOn plan was now written after = (o : Opening) (before : List ℕ) → Stands plan o was
    → PageIs plan o was before written → PageIs plan o now before after

-- the lines of a task with this log and report
abbrev pub text_of : Plan → ℕ → List ℕ → Option Report → List ℕ
text_of plan t log None = []
text_of plan t log (Some report) = block_of plan t report log

-- what is put of the next task to be shown
abbrev pub next_text : Plan → Board → List ℕ
next_text plan board =
    text_of plan board.shown (log_in board.logs board.shown) (report_in board.reports board.shown)

-- where the run stops here, its page is torn
abbrev pub TearsAt : Plan → Now → Cause → List ℕ → List ℕ → Type 0
TearsAt plan now cause written after = (o : Opening) (before : List ℕ) → Stands plan o now
    → PageIs plan o now before written → IsInTurn plan now.states now.shown
    → IsTornPage plan o now.states (notes_in now.reports) cause before after
