-- What files, words and the environment settle: one plan, or one refusal.
use Rattle.std.specs.Prelude.{◌≡◌, ℕ, List, Result}
use Rattle.rel_path.specs.Files.{FileMap}
use Rattle.cli_words.specs.declared.order.RunOrder.{RunOrder}
use Rattle.refusals.specs.declared.refusal.Refusal.{Refusal}
use Rattle.run_plan.specs.declared.plan.Plan.{Plan}
use Rattle.repository.specs.Steps.{After}
use Rattle.repository.specs.Reading.{Contents, Means}
use Rattle.planner.specs.Plans.{Plans}

-- no two answers fit, be they values or refusals
abbrev pub AtMostOne : {A : Type 0} → (Result A Refusal → Type 0) → Type 0
AtMostOne {A} Fits = (one other : Result A Refusal) → Fits one → Fits other → one ≡ other

-- of files: the repository that they mean, or the first reason why they mean none
abbrev pub RepositoryLaw : Type 0
RepositoryLaw = (files : FileMap) → AtMostOne (Means files)

-- of a repository that was read, an order to run and an environment: the plan, or the first reason why there is none
abbrev pub PlanLaw : Type 0
PlanLaw = (contents : Contents) (order : RunOrder) (env : List (List ℕ × List ℕ)) (files : FileMap) → AtMostOne (Plans contents order env files)

-- what an order asks for over files: the repository that they mean, and then the plan, or the first refusal
abbrev pub AsksFor : RunOrder → List (List ℕ × List ℕ) → FileMap → Result Plan Refusal → Type 0
AsksFor order env files answer = (contents : Result Contents Refusal) × Means files contents × After contents (λ c. Plans c order env files) answer

-- of an order to run, an environment and files
abbrev pub OrderLaw : Type 0
OrderLaw = (order : RunOrder) (env : List (List ℕ × List ℕ)) (files : FileMap) → AtMostOne (AsksFor order env files)
