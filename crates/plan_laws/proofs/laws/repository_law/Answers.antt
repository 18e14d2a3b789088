use Rattle.plan_laws.proofs.Read.{one_repository}
use Rattle.plan_laws.proofs.laws.repository_law.Goals as goal

pub returns : goal.returns
returns c = one_repository
