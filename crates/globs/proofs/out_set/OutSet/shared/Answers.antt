use Rattle.globs.proofs.Outputs.{shares_decides}
use Rattle.globs.proofs.out_set.OutSet.shared.Goals as goal

pub returns-clause-meaning : goal.returns-clause-meaning
returns-clause-meaning c = rw (c.shares.ensures, c.components.ensures.value) (shares_decides c.args.self.now c.args.path.now)
