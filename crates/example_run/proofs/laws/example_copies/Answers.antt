use Rattle.example_run.proofs.Copies.{copies}
use Rattle.example_run.proofs.laws.example_copies.Goals as goal

pub returns : goal.returns
returns c = copies
