use Rattle.run_laws.proofs.GoodFacts.{due_law_lem}
use Rattle.run_laws.proofs.laws.due_law.Goals as goal

pub returns : goal.returns
returns c = due_law_lem
