use Rattle.run_laws.proofs.FoundFacts.{found_law_lem}
use Rattle.run_laws.proofs.laws.found_law.Goals as goal

pub returns : goal.returns
returns c = found_law_lem
