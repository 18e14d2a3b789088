use Rattle.run_laws.proofs.EndFacts.{skipped_law_lem}
use Rattle.run_laws.proofs.laws.skipped_law.Goals as goal

pub returns : goal.returns
returns c = skipped_law_lem
