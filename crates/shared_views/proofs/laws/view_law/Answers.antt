use Rattle.shared_views.proofs.Seen.{views}
use Rattle.shared_views.proofs.laws.view_law.Goals as goal

pub returns : goal.returns
returns c = views
