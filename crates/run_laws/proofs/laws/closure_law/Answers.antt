use Rattle.run_laws.proofs.ClosedParts.{closure_law_lem}
use Rattle.run_laws.proofs.laws.closure_law.Goals as goal

pub returns : goal.returns
returns c = closure_law_lem
