use Rattle.workspaces.proofs.Below.{below_is}
use Rattle.workspaces.proofs.checks.lies_below.Goals as goal

pub returns : goal.returns
returns c = below_is c.args.path.now c.args.folder.now c.below.result c.below.ensures
