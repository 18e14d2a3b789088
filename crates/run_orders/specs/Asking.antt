-- What an order to run asks for, over the files of a repository and the stores, and why it is
-- refused.
use Rattle.std.specs.Prelude.{◌⊎◌, ℕ, List, Ok, Err}
use Rattle.rel_path.specs.Files.{FileMap}
use Rattle.cli_words.specs.declared.order.RunOrder.{RunOrder}
use Rattle.refusals.specs.declared.refusal.Refusal.{Refusal}
use Rattle.refusals.specs.declared.refusal.StoreFile.TheVariants as file
use Rattle.run_plan.specs.declared.plan.Plan.{Plan}
use Rattle.plan_laws.specs.Laws.{AsksFor}
use Rattle.answers.specs.declared.answer.Answer.{Answer}
use Rattle.answers.specs.Answers.{IsNothingBut}
use Rattle.store_answers.specs.Refused.{IsNoStore, IsNoStores}
use Rattle.second_runs.specs.Refused.{IsNoneRead}
use Rattle.run_orders.specs.Moments.{StoreFiles}
use Rattle.run_orders.specs.Uses.{uses_of}
use Rattle.run_orders.specs.declared.uses.Uses.{Uses}
use Rattle.run_orders.specs.declared.uses.Uses.TheVariants.{Current, Second, Shared}

-- a file that the order uses as a store is none
abbrev pub IsNoneUsed : Uses → RunOrder → StoreFiles → Refusal → Type 0
IsNoneUsed Current order stores reason = IsNoStores stores.local reason
IsNoneUsed Second order stores reason =
    IsNoneRead order.access stores.local stores.second reason
IsNoneUsed Shared order stores reason = IsNoStore file.Shared stores.shared reason

-- there is a plan, and a file that is used as a store is none
pub record HasBadStore (order : RunOrder) (env : List (List ℕ × List ℕ)) (files : FileMap)
    (stores : StoreFiles) (reason : Refusal) : Type 0 where
  pub plan : Plan
  pub asks : AsksFor order env files (Ok plan)
  pub none : IsNoneUsed (uses_of order) order stores reason

-- why an order to run is refused: there is no plan, or a store is none
abbrev pub IsRefusedRunOrder :
    RunOrder → List (List ℕ × List ℕ) → FileMap → StoreFiles → Refusal → Type 0
IsRefusedRunOrder order env files stores reason =
    AsksFor order env files (Err reason) ⊎ HasBadStore order env files stores reason

-- where there is a reason to refuse the order, nothing is answered but that refusal, a fault of a
-- device or want of memory
abbrev pub HasNoOtherRun :
    RunOrder → List (List ℕ × List ℕ) → FileMap → StoreFiles → Answer → Type 0
HasNoOtherRun order env files stores answer = (reason : Refusal)
    → IsRefusedRunOrder order env files stores reason → IsNothingBut reason answer

-- the same of a plan, whose stores alone are a reason
abbrev pub HasNoOtherStore : Uses → RunOrder → StoreFiles → Answer → Type 0
HasNoOtherStore uses order stores answer =
    (reason : Refusal) → IsNoneUsed uses order stores reason → IsNothingBut reason answer
