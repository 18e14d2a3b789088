-- Which lists of starts and ends are greedy: no command that could run is ever kept waiting, and among those that could the
-- first in plan order starts first (Turborepo's `--concurrency`). Nothing here knows of a scheduler or its states.
use Rattle.std.specs.Prelude.{◌≡◌, ℕ, zero, suc, ◌<◌, Bool, true, false, ◌&&◌, not, ◌==◌, nat_lt, List, [], ◌∷◌, ◌++◌, if◌then◌else◌}
use Rattle.std.specs.List.{list_any, list_all, AllByRecursion}
use Rattle.run_core.specs.declared.states.Mode.{Mode}
use Rattle.run_core.specs.declared.states.Mode.TheVariants.{Never, DependenciesSuccessful, Always}
use Rattle.run_core.specs.declared.states.Step.{Step}
use Rattle.run_core.specs.declared.states.Step.TheVariants.{Start, End}

-- the task graph by numbers, how many commands may run at once, and what a failure stops
pub record Rules : Type 0 where
  pub size : ℕ
  pub deps : ℕ → List ℕ
  pub width : ℕ
  pub mode : Mode

-- with the tasks that are to run: those with a command whose results are not stored yet
pub record Tasks : Type 0 where
  pub rules : Rules
  pub to_run : ℕ → Bool

-- dependencies have lower numbers
abbrev pub AreLower : Rules → Type 0
AreLower g = (t : ℕ) → AllByRecursion (λ d. d < t) (g.deps t)

-- a failure stops the whole run
abbrev pub stops : Mode → Bool
stops Never = true
stops DependenciesSuccessful = false
stops Always = false

-- after an end with this status the tasks above may run
abbrev pub serves : Mode → ℕ → Bool
serves Never s = s == 0
serves DependenciesSuccessful s = s == 0
serves Always s = true

abbrev pub is_start : ℕ → Step → Bool
is_start t (Start u) = u == t
is_start t (End u s) = false

-- an end of t with a status that passes
abbrev pub is_end : (ℕ → Bool) → ℕ → Step → Bool
is_end good t (Start u) = false
is_end good t (End u s) = (u == t) && good s

abbrev pub is_failure : Step → Bool
is_failure (Start u) = false
is_failure (End u s) = not (s == 0)

abbrev pub started : List Step → ℕ → Bool
started steps t = list_any (is_start t) steps

abbrev pub ended : List Step → ℕ → Bool
ended steps t = list_any (is_end (λ s. true) t) steps

abbrev pub is_running : List Step → ℕ → Bool
is_running steps t = started steps t && not (ended steps t)

abbrev pub before_failure : List Step → List Step
before_failure [] = []
before_failure (s ∷ steps) = if is_failure s then [] else s ∷ before_failure steps

-- the steps that count: where a failure stops the run, those before the first failure
abbrev pub live : Mode → List Step → List Step
live mode steps = if stops mode then before_failure steps else steps

abbrev pub is_stopped : Mode → List Step → Bool
is_stopped mode steps = stops mode && list_any is_failure steps

-- a task to run is settled by its end, another one by its dependencies; these are lower, so that n steps down serve a place below n
abbrev pub settled : Tasks → List Step → ℕ → ℕ → Bool
settled g steps zero t = false
settled g steps (suc n) t =
    if g.to_run t then list_any (is_end (serves g.rules.mode) t) (live g.rules.mode steps)
    else list_all (settled g steps n) (g.rules.deps t)

unfoldable pub is_settled : Tasks → List Step → ℕ → Bool
is_settled g steps t = settled g steps (suc t) t

-- how many numbers below n pass
abbrev pub count_below : (ℕ → Bool) → ℕ → ℕ
count_below p zero = zero
count_below p (suc n) = if p n then suc (count_below p n) else count_below p n

-- startable, but for the width
abbrev pub is_due : Tasks → List Step → ℕ → Bool
is_due g steps t = g.to_run t && (not (started steps t) && (not (is_stopped g.rules.mode steps) && list_all (is_settled g steps) (g.rules.deps t)))

abbrev pub has_room : Tasks → List Step → Bool
has_room g steps = nat_lt (count_below (is_running steps) g.rules.size) g.rules.width

abbrev pub is_startable : Tasks → List Step → ℕ → Bool
is_startable g steps t = is_due g steps t && has_room g steps

-- what may come after these steps: the start of the least startable task, or where there is none the end of any running command
abbrev pub IsNextStep : Tasks → List Step → Step → Type 0
IsNextStep g steps (Start t) = (t < g.rules.size) × (is_startable g steps t ≡ true) × ((u : ℕ) → u < t → is_startable g steps u ≡ false)
IsNextStep g steps (End t s) = (t < g.rules.size) × (is_running steps t ≡ true) × ((u : ℕ) → u < g.rules.size → is_startable g steps u ≡ false)

-- nothing runs and nothing is startable
abbrev pub IsOver : Tasks → List Step → Type 0
IsOver g steps = (u : ℕ) → u < g.rules.size → (is_running steps u ≡ false) × (is_startable g steps u ≡ false)

-- what may follow these steps, to the end
abbrev pub IsGreedyAfter : Tasks → List Step → List Step → Type 0
IsGreedyAfter g before [] = IsOver g before
IsGreedyAfter g before (s ∷ steps) = IsNextStep g before s × IsGreedyAfter g (before ++ s ∷ []) steps

abbrev pub IsGreedy : Tasks → List Step → Type 0
IsGreedy g steps = IsGreedyAfter g [] steps

-- a run reports a task to run by its end, and any other task by its dependencies
abbrev pub is_reported : Tasks → List Step → ℕ → Bool
is_reported g steps t = if g.to_run t then ended steps t else is_settled g steps t

-- each end has the status of its task
abbrev pub HaveStatus : List Step → (ℕ → ℕ) → Type 0
HaveStatus steps status = (t s : ℕ) → list_any (is_end (λ x. x == s) t) steps ≡ true → s ≡ status t
