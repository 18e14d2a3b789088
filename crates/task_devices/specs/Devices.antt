-- What is done to the files for one task.
use Rattle.std.specs.Prelude.{◌≡◌, ◌≢◌, ℕ, Bool, true, false}
use Rattle.rel_path.specs.Paths.{Path}
use Rattle.rel_path.specs.Files.{FileMap}
use Rattle.globs.specs.Outputs.{takes}
use Rattle.run_laws.specs.Ancestors.{part_at}
use Rattle.run_laws.specs.Plans.{log_path}
use Rattle.run_plan.specs.declared.plan.Plan.{Plan}

-- no path that the task owns is held
abbrev pub IsFree : Plan → ℕ → (Path → Bool) → Type 0
IsFree plan t held =
    (path : Path) → takes (part_at plan.listing t).outs path ≡ true → held path ≡ false

-- every path that the task does not own and that is not its log file is as before
abbrev pub OnlyAt : Plan → ℕ → FileMap → FileMap → Type 0
OnlyAt plan t old new = (path : Path) → takes (part_at plan.listing t).outs path ≡ false
    → path ≢ log_path (part_at plan.listing t) → new path ≡ old path
