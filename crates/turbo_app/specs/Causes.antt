-- What the answers of a call say of its devices.
use Rattle.std.specs.Prelude.{Result, Ok, Err}
use Rattle.cli_words.specs.declared.order.Order.{Order}
use Rattle.cli_words.specs.declared.order.Order.TheVariants.{Run, Prune, Sample, Compact, Help}
use Rattle.cli_words.specs.declared.error.WordsErr.{WordsErr}
use Rattle.answers.specs.declared.answer.Answer.{Answer}
use Rattle.answers.specs.Answers.{FaultCounts, HasCauseIn, IsQuiet}
use Rattle.run_orders.specs.Causes.{HasCauseBy}
use Rattle.run_orders.specs.Uses.{uses_of}
use Rattle.run_orders.specs.declared.uses.Uses.{Uses}
use Rattle.run_orders.specs.declared.uses.Uses.TheVariants.{Current, Second, Shared}

-- the answer has its cause in the counts, as an order to run says it of its own
abbrev pub IsCaused : Result Order WordsErr → Type 0 → FaultCounts → FaultCounts → Answer → Type 0
IsCaused (Ok (Run order)) told old new answer = HasCauseBy (uses_of order) told old new answer
IsCaused (Ok (Compact keep)) told old new answer = HasCauseIn old new answer
IsCaused (Ok (Prune targets docker)) told old new answer = HasCauseIn old new answer
IsCaused (Ok (Sample size)) told old new answer = HasCauseIn old new answer
IsCaused (Ok Help) told old new answer = HasCauseIn old new answer
IsCaused (Err fault) told old new answer = HasCauseIn old new answer

-- no device failed, and a shared file is told, which then stays a store
abbrev pub IsQuietOver : Uses → Type 0 → FaultCounts → FaultCounts → Type 0
IsQuietOver Current told old new = IsQuiet old new
IsQuietOver Second told old new = IsQuiet old new
IsQuietOver Shared told old new = told × IsQuiet old new

abbrev pub IsQuietBy : Result Order WordsErr → Type 0 → FaultCounts → FaultCounts → Type 0
IsQuietBy (Ok (Run order)) told old new = IsQuietOver (uses_of order) told old new
IsQuietBy (Ok (Compact keep)) told old new = IsQuiet old new
IsQuietBy (Ok (Prune targets docker)) told old new = IsQuiet old new
IsQuietBy (Ok (Sample size)) told old new = IsQuiet old new
IsQuietBy (Ok Help) told old new = IsQuiet old new
IsQuietBy (Err fault) told old new = IsQuiet old new
