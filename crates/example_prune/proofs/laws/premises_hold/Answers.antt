use Rattle.example_prune.proofs.Sample.{example}
use Rattle.example_prune.proofs.laws.premises_hold.Goals as goal

pub returns : goal.returns
returns c = example
