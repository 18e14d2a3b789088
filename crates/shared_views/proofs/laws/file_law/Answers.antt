use Rattle.shared_views.proofs.Numbered.{files}
use Rattle.shared_views.proofs.laws.file_law.Goals as goal

pub returns : goal.returns
returns c = files
