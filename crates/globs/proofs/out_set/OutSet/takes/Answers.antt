use Rattle.globs.proofs.Outputs.{takes_decides}
use Rattle.globs.proofs.out_set.OutSet.takes.Goals as goal

pub returns-clause-meaning : goal.returns-clause-meaning
returns-clause-meaning c = rw (c.owns.ensures, c.components.ensures.value) (takes_decides c.args.self.now c.args.path.now)
