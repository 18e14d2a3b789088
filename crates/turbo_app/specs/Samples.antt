-- What a sample leaves that was stopped.
use Rattle.std.specs.Prelude.{ℕ, List}
use Rattle.page.specs.declared.error.PageErr.TheVariants.{SinkFault, OutOfMemory}
use Rattle.run_plan.specs.Answers.{Cause}
use Rattle.run_plan.specs.Answers.Cause.{Device, Output, Memory}
use Rattle.sample.specs.Lines.{CutsSample}

-- some first part of its lines where the output failed, and nothing where memory was wanting
abbrev pub StoppedSample : ℕ → List ℕ → List ℕ → Cause → List ℕ → Type 0
StoppedSample size before after Device line = ⊥
StoppedSample size before after Output line = CutsSample size before after SinkFault
StoppedSample size before after Memory line = CutsSample size before after OutOfMemory
