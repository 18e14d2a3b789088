use Rattle.run_laws.proofs.StepFacts.{leaves_law_lem}
use Rattle.run_laws.proofs.laws.leaves_law.Goals as goal

pub returns : goal.returns
returns c = leaves_law_lem
