use Rattle.shared_views.proofs.Folded.{moments}
use Rattle.shared_views.proofs.laws.moment_law.Goals as goal

pub returns : goal.returns
returns c = moments
