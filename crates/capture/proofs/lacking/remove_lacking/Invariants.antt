use Rattle.std.proofs.Common.{◌≡◌, false, take}
use Rattle.rel_path.specs.Paths.{Path}
use Rattle.tree_dev.specs.Tree.{Keeps, Looks}
use Rattle.capture.specs.Kept.{paths_in, is_only_in, without}
use Rattle.capture.proofs.lacking.remove_lacking.Given as goal

abbrev pub invariant-loop-path : goal.invariant-loop-path
invariant-loop-path g l = record {
  keeps : Keeps (g.T.Tree.state l.fn.tree) (g.T.Tree.state l.tree);
  faults : (g.T.Tree.state l.tree).faults ≡ (g.T.Tree.state l.fn.tree).faults;
  removed : g.T.Tree.tells → (path : Path) → (g.T.Tree.state l.tree).files path ≡ without (take l.path-index l.listed) (paths_in l.files) (g.T.Tree.state l.fn.tree).files path;
  same : ((path : Path) → is_only_in l.listed (paths_in l.files) path ≡ false) → Looks (g.T.Tree.state l.fn.tree) (g.T.Tree.state l.tree);
}
