use Rattle.run_laws.proofs.RunFacts.{run_law_lem}
use Rattle.run_laws.proofs.laws.run_law.Goals as goal

pub returns : goal.returns
returns c = run_law_lem c.artifact_law.ensures.only
