-- Why a finished run doesn't report a task (Turborepo's `--continue`). Greedy steps are those of a
-- whole run: they end where nothing runs and nothing can start.
use Rattle.std.specs.Prelude.{◌≡◌, ◌≢◌, ℕ, zero, ◌<◌, true, false, List, ◌∷◌, ◌++◌, if◌then◌else◌}
use Rattle.std.specs.List.{list_any}
use Rattle.run_core.specs.declared.states.Mode.{Mode}
use Rattle.run_core.specs.declared.states.Mode.TheVariants.{Never, DependenciesSuccessful, Always}
use Rattle.run_core.specs.declared.states.Step.{Step}
use Rattle.run_core.specs.declared.states.Step.TheVariants.{End}
use Rattle.run_core.specs.Greedy.{Tasks, AreLower, IsGreedy, is_failure}
use Rattle.run_core.specs.Greedy.{started, is_settled, is_reported}
use Rattle.run_core.specs.Machine.{is_above}

-- a failing end in these steps, and what stands before and behind it
pub record FailsAt (steps : List Step) : Type 0 where
  pub before : List Step
  pub place : ℕ
  pub status : ℕ
  pub after : List Step
  pub is : steps ≡ before ++ End place status ∷ after
  pub failed : status ≢ 0

-- an ancestor of the task came to a failing end
pub record HasFailedAbove (g : Tasks) (steps : List Step) (t : ℕ) : Type 0 where
  pub failure : FailsAt steps
  pub above : is_above g.rules t failure.place ≡ true

-- the task was late: as the first failure ended, one to run was not started, another not settled
pub record CameTooLate (g : Tasks) (steps : List Step) (t : ℕ) : Type 0 where
  pub failure : FailsAt steps
  pub first : list_any is_failure failure.before ≡ false
  pub late :
      (if g.to_run t then started failure.before t else is_settled g failure.before t) ≡ false

-- where a failure stops the run, its end was taken before the task could be started or looked up;
-- where it leaves the tasks above, an ancestor failed; where it stops nothing, none is unreported
abbrev pub IsUnreportedBy : Mode → Tasks → List Step → ℕ → Type 0
IsUnreportedBy Never g steps t = CameTooLate g steps t
IsUnreportedBy DependenciesSuccessful g steps t = HasFailedAbove g steps t
IsUnreportedBy Always g steps t = ⊥

-- a task that a finished run doesn't report has the reason that its mode allows
abbrev pub UnreportedLaw : Type 0
UnreportedLaw = (g : Tasks) (steps : List Step) (t : ℕ)
    → zero < g.rules.width → AreLower g.rules → IsGreedy g steps → t < g.rules.size
    → is_reported g steps t ≡ false → IsUnreportedBy g.rules.mode g steps t

-- where nothing fails, all tasks are reported, in every mode
abbrev pub AllReportedLaw : Type 0
AllReportedLaw = (g : Tasks) (steps : List Step) (t : ℕ)
    → zero < g.rules.width → AreLower g.rules → IsGreedy g steps → t < g.rules.size
    → list_any is_failure steps ≡ false → is_reported g steps t ≡ true
