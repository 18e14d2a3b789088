use Rattle.std.proofs.Common.{◌≡◌, ◌≤◌, take}
use Rattle.tree_dev.specs.Tree.{Keeps}
use Rattle.capture.proofs.Owns.{Removed}
use Rattle.capture.proofs.clearing.clear.Given as goal

abbrev pub invariant-loop-path : goal.invariant-loop-path
invariant-loop-path g l = record {
  keeps : Keeps (g.T.Tree.state l.fn.tree) (g.T.Tree.state l.tree);
  reach : (g.T.Tree.state l.tree).reach ≤ (g.T.Tree.state l.fn.tree).reach;
  faults : (g.T.Tree.state l.tree).faults ≡ (g.T.Tree.state l.fn.tree).faults;
  removed : g.T.Tree.tells → Removed (take l.path-index l.path-items) (g.T.Tree.state l.fn.tree).files (g.T.Tree.state l.tree).files;
}
