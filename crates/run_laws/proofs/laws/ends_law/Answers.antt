use Rattle.run_laws.proofs.EndFacts.{ends_law_lem}
use Rattle.run_laws.proofs.laws.ends_law.Goals as goal

pub returns : goal.returns
returns c = ends_law_lem
