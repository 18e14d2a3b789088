use Rattle.shared_views.proofs.Seen.{others}
use Rattle.shared_views.proofs.laws.others_law.Goals as goal

pub returns : goal.returns
returns c = others
