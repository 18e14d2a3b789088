-- What planning a run answers.
use Rattle.std.specs.Prelude.{ℕ, List, Result, Ok, Err}
use Rattle.rel_path.specs.Files.{FileMap}
use Rattle.cli_words.specs.declared.order.RunOrder.{RunOrder}
use Rattle.run_plan.specs.declared.plan.Plan.{Plan}
use Rattle.repository.specs.Reading.{Contents}
use Rattle.refusals.specs.declared.stop.Stop.{Stop}
use Rattle.refusals.specs.declared.stop.Stop.TheVariants.{Refused, Failed, OutOfMemory}
use Rattle.planner.specs.Plans.{Plans}

-- the plan, or why there is none; a failed tree and want of memory say nothing of either
abbrev pub Answers : Contents → RunOrder → List (List ℕ × List ℕ) → FileMap → Result Plan Stop → Type 0
Answers contents order env files (Ok plan) = Plans contents order env files (Ok plan)
Answers contents order env files (Err (Refused reason)) = Plans contents order env files (Err reason)
Answers contents order env files (Err Failed) = Unit {0}
Answers contents order env files (Err OutOfMemory) = Unit {0}
