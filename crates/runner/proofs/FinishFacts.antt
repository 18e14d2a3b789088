-- A run when the end of a command came, by what waiting for it answers.
use Rattle.std.proofs.Common.{◌≡◌, ℕ, ◌<◌, Bool, true, List, [], ◌∷◌, length, sym, ap, ◌∙◌, subst}
use Rattle.std.specs.List.{list_all}
use Rattle.rel_path.specs.Files.{FileMap}
use Rattle.tree_dev.specs.Tree.{TreeState}
use Rattle.cache_api.specs.Pairs.{Pair}
use Rattle.spawn_dev.specs.declared.command.Ended.{Ended}
use Rattle.spawn_dev.specs.declared.command.Step.TheVariants as told
use Rattle.spawn_dev.specs.declared.effect.Effect.{Effect}
use Rattle.spawn_dev.specs.Effects.{Seen}
use Rattle.spawn_dev.specs.Spawn.{Runs, IsOver, EndsAs}
use Rattle.run_core.specs.declared.states.State.TheVariants.{Running}
use Rattle.run_core.specs.Core.{states}
use Rattle.run_core.specs.Machine.{is_done, IsCalm}
use Rattle.run_laws.specs.Ancestors.{part_at, has_script}
use Rattle.run_plan.specs.declared.plan.Plan.{Plan}
use Rattle.run_plan.specs.Answers.{OnlyUndone}
use Rattle.run_plan.specs.Openings.{rules_of}
use Rattle.run_plan.specs.Plans.{IsValidPlan}
use Rattle.run_plan.specs.StoryLaws.{EndsNow, TellsGood}
use Rattle.run_plan.proofs.Closing.{script-below}
use Rattle.task_devices.specs.Devices.{OnlyAt}
use Rattle.run_board.specs.declared.board.Board.{Board}
use Rattle.run_board.specs.Boards.{IsBoard}
use Rattle.runner.specs.Halting.{WorldGoes}
use Rattle.run_board.specs.Progress.{now_at}
use Rattle.runner.specs.Running.{AreOurs, InStep}
use Rattle.run_board.specs.Tables.{flag_in}
use Rattle.run_board.proofs.BoardFacts.{running-deps, sound-tells}
use Rattle.runner.proofs.FileFacts.{elsewhere-only, elsewhere-over, elsewhere-then, undone-only, undone-over, undone-then}
use Rattle.runner.proofs.WorldFacts.{ended-runs, ours-over, ours-same}

module _ {B R : Type 0} (plan : Plan) (valid : IsValidPlan plan) (board : Board)
    (old mid : Runs B) (tree after : TreeState R) (step : InStep plan (states board.core) old)
    (place : ℕ) (over : IsOver place old mid tree.files after.files) where
  -- the command that ended is that of a task with a script
  pub end-script : has_script (part_at plan.listing place) ≡ true
  end-script = step.ours.scripts place over.command over.ran

  pub end-below : place < length plan.listing.parts
  end-below = script-below plan place end-script

  pub end-running : states board.core place ≡ Running
  end-running = ended-runs plan valid (states board.core) old place over.command step over.ran

  pub end-ours : AreOurs plan mid
  end-ours = ours-over plan old mid place over.at step.ours

  -- what is done for the task then changes no file of others, and none of a task that is done
  pub end-undone : (later : FileMap) → OnlyAt plan place after.files later
      → OnlyUndone plan (states board.core) tree.files later
  end-undone later only =
      undone-then plan (states board.core) tree.files after.files later
      (undone-over plan (states board.core) old mid place tree.files after.files step.ours
      (ap is_done end-running) over)
      (undone-only plan (states board.core) place after.files later end-script
      (ap is_done end-running) only)

  pub end-world : (tells : Type 0) (new : Runs B) (last : TreeState R) (end : Ended)
      → new ≡ mid → mid.book ≡ old.book
      → (tells → EndsAs end old mid tree.files after.files)
      → (tells → OnlyAt plan place after.files last.files)
      → WorldGoes tells plan old new tree last
  end-world tells new last end same book ends only = record {
    book = ap (λ w. w.book) same ∙ book;
    ours = ours-same plan mid new same end-ours;
    further = λ heard. (told.End end ∷ [], ap (λ w. w.steps) same ∙ (ends heard).steps);
    elsewhere = λ heard. elsewhere-then plan tree.files after.files last.files
        (elsewhere-over plan old mid place tree.files after.files step.ours over)
        (elsewhere-only plan place after.files last.files end-script (only heard));
  }

-- the end as the story has it
pub ends-now : {B R : Type 0} (plan : Plan) (valid : IsValidPlan plan) (board : Board)
    (is : IsBoard plan board) (effect : B → Seen → Effect) (old mid : Runs B) (tree : TreeState R)
    (files : FileMap) (pairs : List Pair) (lasting room : ℕ)
    (step : InStep plan (states board.core) old) (end : Ended) (sound : Bool) → IsCalm (rules_of plan) (states board.core)
    → IsOver end.place old mid tree.files files → EndsAs end old mid tree.files files
    → sound ≡ list_all (flag_in board.good) (part_at plan.listing end.place).deps
    → EndsNow plan (now_at board effect old tree pairs lasting room) end sound
ends-now plan valid board is effect old mid tree files pairs lasting room step end sound calm over
    ends sound_is =
    let st = states board.core in
    let running = ended-runs plan valid st old end.place over.command step over.ran in
    record {
      running = running;
      status = ends.status;
      log = ends.log;
      sound_is = subst (TellsGood plan st end.place) (sym sound_is)
          (sound-tells plan valid st board.good is.flags end.place
          (running-deps plan valid st calm end.place running));
    }
