use Rattle.run_laws.proofs.StepFacts.{steps_law_lem}
use Rattle.run_laws.proofs.laws.steps_law.Goals as goal

pub returns : goal.returns
returns c = steps_law_lem
