use Rattle.run_laws.proofs.LogFacts.{log_law_lem}
use Rattle.run_laws.proofs.laws.log_law.Goals as goal

pub returns : goal.returns
returns c = log_law_lem
