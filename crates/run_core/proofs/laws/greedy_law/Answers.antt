use Rattle.run_core.proofs.Steps.{core_law_lem}
use Rattle.run_core.proofs.laws.greedy_law.Goals as goal

pub returns : goal.returns
returns c = core_law_lem
