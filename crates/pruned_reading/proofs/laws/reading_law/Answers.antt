use Rattle.pruned_reading.proofs.Whole.{pruned_means}
use Rattle.pruned_reading.proofs.laws.reading_law.Goals as goal

pub returns : goal.returns
returns c = pruned_means
