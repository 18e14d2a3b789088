use Rattle.run_laws.proofs.CleanFacts.{modes_record}
use Rattle.run_laws.proofs.laws.modes_law.Goals as goal

pub returns : goal.returns
returns c = modes_record
