use Rattle.globs.proofs.Lists.{takes_entries-list_takes_whole, list_takes_whole_decides}
use Rattle.globs.proofs.list.GlobList.takes_whole.Goals as goal

pub returns-clause-value : goal.returns-clause-value
returns-clause-value c = rw (c.takes_entries.ensures, c.entries.ensures, c.components.ensures.value) (takes_entries-list_takes_whole c.args.self.now c.args.path.now)

pub returns-clause-meaning : goal.returns-clause-meaning
returns-clause-meaning c = rw (c.takes_entries.ensures, c.entries.ensures, c.components.ensures.value, takes_entries-list_takes_whole) (list_takes_whole_decides c.args.self.now c.args.path.now)
