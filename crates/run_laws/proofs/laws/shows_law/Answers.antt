use Rattle.run_laws.proofs.StepFacts.{shows_law_lem}
use Rattle.run_laws.proofs.laws.shows_law.Goals as goal

pub returns : goal.returns
returns c = shows_law_lem
