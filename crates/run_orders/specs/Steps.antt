-- What the steps of an order to run answer.
use Rattle.std.specs.Prelude.{ℕ, List, Result, Ok, Err}
use Rattle.rel_path.specs.Files.{FileMap}
use Rattle.run_plan.specs.declared.plan.Plan.{Plan}
use Rattle.refusals.specs.declared.stop.Stop.{Stop}
use Rattle.refusals.specs.declared.stop.Stop.TheVariants.{Refused, Failed, OutOfMemory}
use Rattle.cli_words.specs.declared.order.RunOrder.{RunOrder}
use Rattle.plan_laws.specs.Laws.{AsksFor}

-- the plan, or the reason why there is none; a failure of the tree and want of memory say nothing
abbrev pub AsksAs : RunOrder → List (List ℕ × List ℕ) → FileMap → Result Plan Stop → Type 0
AsksAs order env files (Ok plan) = AsksFor order env files (Ok plan)
AsksAs order env files (Err (Refused reason)) = AsksFor order env files (Err reason)
AsksAs order env files (Err Failed) = Unit {0}
AsksAs order env files (Err OutOfMemory) = Unit {0}
