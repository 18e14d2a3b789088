-- What the answers of an order to run say of its devices.
use Rattle.answers.specs.declared.answer.Answer.{Answer}
use Rattle.answers.specs.Answers.{FaultCounts, HasRunCause}
use Rattle.file_runs.specs.Causes.{HasCauseOver}
use Rattle.run_orders.specs.declared.uses.Uses.{Uses}
use Rattle.run_orders.specs.declared.uses.Uses.TheVariants.{Current, Second, Shared}

-- The answer has its cause in the counts. Of a run over the shared file a turn that found that it
-- is no store any more counts as a fault too, which is never so of a file that is told.
abbrev pub HasCauseBy : Uses → Type 0 → FaultCounts → FaultCounts → Answer → Type 0
HasCauseBy Current told old new answer = HasRunCause old new answer
HasCauseBy Second told old new answer = HasRunCause old new answer
HasCauseBy Shared told old new answer = HasCauseOver told old new answer
