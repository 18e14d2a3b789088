use Rattle.globs.proofs.Lists.{takes_entries-list_takes}
use Rattle.globs.proofs.list.GlobList.takes_components.Goals as goal

pub returns : goal.returns
returns c = rw (c.takes_entries.ensures, c.entries.ensures) (takes_entries-list_takes c.args.self.now c.args.path.now)
