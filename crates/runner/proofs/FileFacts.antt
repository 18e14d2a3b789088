-- Which files calls leave as they are.
use Rattle.std.proofs.Common.{◌≡◌, ℕ, true, false, ap, ◌∙◌}
use Rattle.rel_path.specs.Paths.{Path}
use Rattle.rel_path.specs.Files.{FileMap}
use Rattle.globs.specs.Outputs.{takes}
use Rattle.spawn_dev.specs.declared.command.Command.{Command}
use Rattle.spawn_dev.specs.Spawn.{Runs, IsOver}
use Rattle.run_core.specs.Machine.{States, is_done}
use Rattle.run_laws.specs.Ancestors.{part_at, has_script}
use Rattle.run_plan.specs.declared.plan.Plan.{Plan}
use Rattle.run_plan.specs.Answers.{SameElsewhere, OnlyUndone}
use Rattle.run_plan.proofs.CommandFacts.{outs-is}
use Rattle.task_devices.specs.Devices.{OnlyAt}
use Rattle.runner.specs.Running.{AreOurs}

-- ---- of one task

pub only-same : (plan : Plan) (t : ℕ) (old new : FileMap) → new ≡ old → OnlyAt plan t old new
only-same plan t old new same path own log = ap (λ f. f path) same

pub only-then : (plan : Plan) (t : ℕ) (old mid new : FileMap) → OnlyAt plan t old mid
    → OnlyAt plan t mid new → OnlyAt plan t old new
only-then plan t old mid new first last path own log = last path own log ∙ first path own log

-- ---- of no task

pub elsewhere-same : (plan : Plan) (old new : FileMap) → new ≡ old → SameElsewhere plan old new
elsewhere-same plan old new same path free = ap (λ f. f path) same

pub elsewhere-then : (plan : Plan) (old mid new : FileMap) → SameElsewhere plan old mid
    → SameElsewhere plan mid new → SameElsewhere plan old new
elsewhere-then plan old mid new first later path free = later path free ∙ first path free

pub elsewhere-only : (plan : Plan) (t : ℕ) (old new : FileMap)
    → has_script (part_at plan.listing t) ≡ true → OnlyAt plan t old new
    → SameElsewhere plan old new
elsewhere-only plan t old new script only path free =
    let f = free t script in only path f.0 f.1

-- what a command owns that ended
over-outs : {B : Type 0} (plan : Plan) (world now : Runs B) (place : ℕ) (old new : FileMap)
    → AreOurs plan world → (over : IsOver place world now old new) → (path : Path)
    → takes (part_at plan.listing place).outs path ≡ false → new path ≡ old path
over-outs plan world now place old new ours over path own =
    let outs = ap (λ (c : Command). c.outs) (ours.command place over.command over.ran)
    ∙ outs-is plan place in
    over.outside path (ap (λ o. takes o path) outs ∙ own)

pub elsewhere-over : {B : Type 0} (plan : Plan) (world now : Runs B) (place : ℕ)
    (old new : FileMap) → AreOurs plan world → IsOver place world now old new
    → SameElsewhere plan old new
elsewhere-over plan world now place old new ours over path free =
    over-outs plan world now place old new ours over path
    (free place (ours.scripts place over.command over.ran)).0

-- ---- of no task that is done

pub undone-same : (plan : Plan) (st : States) (old new : FileMap) → new ≡ old
    → OnlyUndone plan st old new
undone-same plan st old new same path free = ap (λ f. f path) same

pub undone-then : (plan : Plan) (st : States) (old mid new : FileMap) → OnlyUndone plan st old mid
    → OnlyUndone plan st mid new → OnlyUndone plan st old new
undone-then plan st old mid new first later path free = later path free ∙ first path free

pub undone-only : (plan : Plan) (st : States) (t : ℕ) (old new : FileMap)
    → has_script (part_at plan.listing t) ≡ true → is_done (st t) ≡ false → OnlyAt plan t old new
    → OnlyUndone plan st old new
undone-only plan st t old new script undone only path free =
    let f = free t script undone in only path f.0 f.1

pub undone-over : {B : Type 0} (plan : Plan) (st : States) (world now : Runs B) (place : ℕ)
    (old new : FileMap) → AreOurs plan world → is_done (st place) ≡ false
    → IsOver place world now old new → OnlyUndone plan st old new
undone-over plan st world now place old new ours undone over path free =
    over-outs plan world now place old new ours over path
    (free place (ours.scripts place over.command over.ran) undone).0
