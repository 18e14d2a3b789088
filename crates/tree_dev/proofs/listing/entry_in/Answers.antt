use Rattle.tree_dev.proofs.NamesOf.{proper_in}
use Rattle.tree_dev.proofs.listing.entry_in.Goals as goal

pub returns-clause-proper : goal.returns-clause-proper
returns-clause-proper c = proper_in c.args.folder.now c.args.path.now c.in_ok-entry.entry c.components-2.ensures.names (rw (← c.components.ensures.value, ← c.components-2.ensures.value) c.in_ok-entry.ensures.entry)
