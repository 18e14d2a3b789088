use Rattle.tree_dev.proofs.NamesOf.{names-of}
use Rattle.tree_dev.proofs.memory.MemTreeTree.list.Goals as goal

pub returns-clause-names : goal.returns-clause-names
returns-clause-names c = rw c.from_vec.ensures (names-of c.args.folder.now _ _ (rw c.as_slice.ensures at c.in_ok-names.ensures.names) _)
