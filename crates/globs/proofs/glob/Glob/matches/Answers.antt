use Rattle.globs.proofs.Decides.{matches_decides}
use Rattle.globs.proofs.glob.Glob.matches.Goals as goal

pub returns-clause-meaning : goal.returns-clause-meaning
returns-clause-meaning c = rw (c.matches_components.ensures, c.components.ensures.value) (matches_decides c.args.self.now c.args.path.now)
