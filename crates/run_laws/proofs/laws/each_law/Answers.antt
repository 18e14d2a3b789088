use Rattle.run_laws.proofs.CleanFacts.{each_record}
use Rattle.run_laws.proofs.laws.each_law.Goals as goal

pub returns : goal.returns
returns c = each_record
