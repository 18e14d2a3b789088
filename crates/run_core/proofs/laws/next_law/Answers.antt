use Rattle.run_core.proofs.Turns.{next-tells}
use Rattle.run_core.proofs.laws.next_law.Goals as goal

pub returns : goal.returns
returns c = next-tells
