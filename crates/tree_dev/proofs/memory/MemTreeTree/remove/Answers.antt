use Rattle.tree_dev.proofs.FileLists.{without_others, without_here, deepest-without}
use Rattle.tree_dev.proofs.memory.MemTreeTree.remove.Goals as goal

pub returns-clause-reach : goal.returns-clause-reach
returns-clause-reach c =
    rw (c.from_vec.ensures, c.remove_at.ensures, c.into_vec-files.ensures, c.replace.ensures.value) (deepest-without c.args.path.now c.args.self.now.files)

pub returns-clause-others : goal.returns-clause-others
returns-clause-others c =
    rw (c.from_vec.ensures, c.remove_at.ensures, c.into_vec-files.ensures, c.replace.ensures.value) (without_others c.args.path.now c.args.self.now.files)

pub returns-clause-removed : goal.returns-clause-removed
returns-clause-removed c =
    rw (c.from_vec.ensures, c.remove_at.ensures, c.into_vec-files.ensures, c.replace.ensures.value) (without_here c.args.path.now c.args.self.now.files)
