use Rattle.run_laws.proofs.ReadyFacts.{start_law_lem}
use Rattle.run_laws.proofs.laws.start_law.Goals as goal

pub returns : goal.returns
returns c = start_law_lem
