use Rattle.std.proofs.Common.{◌≡◌, take}
use Rattle.tree_dev.specs.Tree.{Looks}
use Rattle.capture.proofs.Readings.{SoFar}
use Rattle.capture.proofs.taking.read_all.Given as goal

abbrev pub invariant-loop-path : goal.invariant-loop-path
invariant-loop-path g l = record {
  looks : Looks (g.T.Tree.state l.fn.tree) (g.T.Tree.state l.tree);
  faults : (g.T.Tree.state l.tree).faults ≡ (g.T.Tree.state l.fn.tree).faults;
  so_far : SoFar g.T.Tree.tells (g.T.Tree.state l.fn.tree).files l.limit (take l.path-index l.paths) l.files;
}
