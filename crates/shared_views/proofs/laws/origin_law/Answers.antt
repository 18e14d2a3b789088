use Rattle.shared_views.proofs.Origins.{origins}
use Rattle.shared_views.proofs.laws.origin_law.Goals as goal

pub returns : goal.returns
returns c = origins
