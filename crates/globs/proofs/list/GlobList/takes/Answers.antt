use Rattle.globs.proofs.Lists.{list_takes_decides}
use Rattle.globs.proofs.list.GlobList.takes.Goals as goal

pub returns-clause-meaning : goal.returns-clause-meaning
returns-clause-meaning c = rw (c.takes_components.ensures, c.components.ensures.value) (list_takes_decides c.args.self.now c.args.path.now)
