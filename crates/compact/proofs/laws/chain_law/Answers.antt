use Rattle.compact.proofs.Chaining as chains
use Rattle.compact.proofs.laws.chain_law.Goals as goal

pub returns : goal.returns
returns g c = chains.chain_law g.R.PairRule.good
