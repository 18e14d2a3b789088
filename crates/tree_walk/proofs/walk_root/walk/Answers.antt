use Rattle.tree_walk.proofs.Root.{walks_ok, walks_err}
use Rattle.tree_walk.proofs.walk_root.walk.Goals as goal

pub returns-in-Ok-clause-walks : goal.returns-in-Ok-clause-walks
returns-in-Ok-clause-walks g c = walks_ok _ _ _ _ _ c.in-Ok.ensures.room (rw (c.root-root.ensures, c.new-found.ensures) at c.in-Ok.ensures.gathered)

pub returns-clause-walks : goal.returns-clause-walks
returns-clause-walks g c = walks_err _ _ _ _ _ c.requires.none c.in-Err.ensures.room (rw (c.root-root.ensures, c.new-found.ensures) at c.in-Err.ensures.gathered)
