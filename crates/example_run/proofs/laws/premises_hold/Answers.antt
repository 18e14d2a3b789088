use Rattle.example_run.proofs.Ready.{ready}
use Rattle.example_run.proofs.laws.premises_hold.Goals as goal

pub returns : goal.returns
returns c = ready
