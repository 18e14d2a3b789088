use Rattle.cli_words.proofs.Limits.{order_within}
use Rattle.cli_words.proofs.laws.width_law.Goals as goal

pub returns : goal.returns
returns c = order_within
