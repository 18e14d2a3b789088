use Rattle.run_laws.proofs.GoodFacts.{history_law_lem}
use Rattle.run_laws.proofs.laws.history_law.Goals as goal

pub returns : goal.returns
returns c = history_law_lem
