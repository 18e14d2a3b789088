-- What the answers of a run over a shared file say of its devices.
use Rattle.std.specs.Prelude.{◌≡◌, ◌+◌, ℕ}
use Rattle.answers.specs.declared.answer.Answer.{Answer}
use Rattle.answers.specs.Answers.{FaultCounts, HasRunCause}

-- The answer has its cause in the counts, where to the faults of the file is added how often a turn
-- found that it is no store any more. That is never so of a file that is told.
pub record HasCauseOver (told : Type 0) (old new : FaultCounts) (answer : Answer) : Type 0 where
  pub damaged : ℕ
  pub never : told → damaged ≡ 0
  pub cause : HasRunCause old (record new { store = new.store + damaged }) answer
