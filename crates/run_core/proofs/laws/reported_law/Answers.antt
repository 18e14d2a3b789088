use Rattle.run_core.proofs.Reported.{reported_law_lem}
use Rattle.run_core.proofs.laws.reported_law.Goals as goal

pub returns : goal.returns
returns c = reported_law_lem
