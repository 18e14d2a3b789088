use Rattle.std.proofs.Common.{◌≡◌, ◌≤◌, ◌+◌, ◌-◌, ◌*◌, length, take, Ok}
use Rattle.tree_dev.specs.Tree.{Looks}
use Rattle.tree_walk.specs.Traversal.{Gathered, is_in}
use Rattle.tree_walk.proofs.traversal.+descent.Given as goal

abbrev pub decreases-gather : goal.decreases-gather
decreases-gather g l = 2 * ((g.T.Tree.state l.tree.now).reach - length l.folder.now) + 1

abbrev pub decreases-visit : goal.decreases-visit
decreases-visit g l = 2 * ((g.T.Tree.state l.tree.now).reach - length l.folder.now)

abbrev pub invariant-gather-loop-entry : goal.invariant-gather-loop-entry
invariant-gather-loop-entry g l = record {
  looks : Looks (g.T.Tree.state l.fn.tree) (g.T.Tree.state l.tree);
  faults : (g.T.Tree.state l.tree).faults ≡ (g.T.Tree.state l.fn.tree).faults;
  room : length l.found ≤ l.bounds.most;
  gathered : Gathered g.T.Tree.tells (g.T.Tree.state l.fn.tree).files (g.T.Tree.state l.fn.tree).held (g.P.Choose.choice l.choose) l.bounds.depth l.bounds.most l.folder (is_in l.folder (take l.entry-index l.entry-items)) l.fn.found l.found (Ok tt);
}
