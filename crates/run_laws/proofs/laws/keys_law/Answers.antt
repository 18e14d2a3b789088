use Rattle.run_laws.proofs.KeyFacts.{keys_law_lem}
use Rattle.run_laws.proofs.laws.keys_law.Goals as goal

pub returns : goal.returns
returns c = keys_law_lem
