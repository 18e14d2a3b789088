use Rattle.prune_laws.proofs.Outcomes.{same_outcomes}
use Rattle.prune_laws.proofs.laws.outcome_law.Goals as goal

pub returns : goal.returns
returns c = same_outcomes c.prune_law.ensures c.closure_law.ensures
