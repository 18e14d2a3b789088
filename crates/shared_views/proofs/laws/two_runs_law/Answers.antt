use Rattle.shared_views.proofs.Examples.{example}
use Rattle.shared_views.proofs.laws.two_runs_law.Goals as goal

pub returns : goal.returns
returns c = example
