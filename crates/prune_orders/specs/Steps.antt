-- What the steps of an order to prune answer.
use Rattle.std.specs.Prelude.{◌≡◌, ℕ, List, Result, Err}
use Rattle.refusals.specs.declared.refusal.Refusal.{Refusal}
use Rattle.refusals.specs.declared.refusal.Refusal.TheVariants as refusal
use Rattle.run_plan.specs.Answers.{Cause}
use Rattle.run_plan.specs.Answers.Cause.{Output}
use Rattle.prune.specs.Cause.{Counts, HasCause}
use Rattle.prune.specs.declared.error.PruneErr.{PruneErr}
use Rattle.prune.specs.declared.error.PruneErr.TheVariants.{NoPackage, OutTaken, Missing, TooLarge, TreeFailed, SinkFailed, OutOfMemory}
use Rattle.answers.specs.Stops.{StopsEarly}

-- the refusal that an error is
abbrev pub IsRefusalOf : PruneErr → Refusal → Type 0
IsRefusalOf (NoPackage name) reason = reason ≡ refusal.NoPackage name
IsRefusalOf (OutTaken path) reason = reason ≡ refusal.OutTaken path
IsRefusalOf (Missing from name) reason = reason ≡ refusal.LockMissing from name
IsRefusalOf (TooLarge path) reason = reason ≡ refusal.TooLarge path
IsRefusalOf TreeFailed reason = ⊥
IsRefusalOf SinkFailed reason = ⊥
IsRefusalOf OutOfMemory reason = ⊥

-- the output had failed, and nothing more was printed
pub record IsSilent (before after : List ℕ) (cause : Cause) : Type 0 where
  pub same : after ≡ before
  pub output : cause ≡ Output

-- what was printed behind the error
abbrev pub StopsAs : PruneErr → List ℕ → List ℕ → Cause → List ℕ → Type 0
StopsAs (NoPackage name) before after cause line = StopsEarly (IsRefusalOf (NoPackage name)) before after cause line
StopsAs (OutTaken path) before after cause line = StopsEarly (IsRefusalOf (OutTaken path)) before after cause line
StopsAs (Missing from name) before after cause line = StopsEarly (IsRefusalOf (Missing from name)) before after cause line
StopsAs (TooLarge path) before after cause line = StopsEarly (IsRefusalOf (TooLarge path)) before after cause line
StopsAs TreeFailed before after cause line = StopsEarly (IsRefusalOf TreeFailed) before after cause line
StopsAs SinkFailed before after cause line = IsSilent before after cause
StopsAs OutOfMemory before after cause line = StopsEarly (IsRefusalOf OutOfMemory) before after cause line

-- the counts as they are where that error is answered
abbrev pub HasCounts : Counts → Counts → PruneErr → Type 0
HasCounts old new fault = HasCause old new (Err fault)
