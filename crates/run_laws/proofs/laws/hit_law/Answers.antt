use Rattle.run_laws.proofs.HitFacts.{hit_law_lem}
use Rattle.run_laws.proofs.laws.hit_law.Goals as goal

pub returns : goal.returns
returns c = hit_law_lem c.artifact_law.ensures.only
