use Rattle.run_laws.proofs.HitFacts.{effect_law_lem}
use Rattle.run_laws.proofs.laws.effect_law.Goals as goal

pub returns : goal.returns
returns c = effect_law_lem
