use Rattle.shared_views.proofs.Seen.{looks}
use Rattle.shared_views.proofs.laws.look_law.Goals as goal

pub returns : goal.returns
returns c = looks
