use Rattle.env_select.proofs.Once.{chosen_once}
use Rattle.env_select.proofs.choose.choice_law.Goals as goal

pub returns : goal.returns
returns c = chosen_once
