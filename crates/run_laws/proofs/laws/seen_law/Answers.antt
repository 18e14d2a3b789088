use Rattle.run_laws.proofs.CleanFacts.{seen_record}
use Rattle.run_laws.proofs.laws.seen_law.Goals as goal

pub returns : goal.returns
returns c = seen_record
