use Rattle.std.proofs.Common.{◌≡◌, take}
use Rattle.rel_path.specs.Paths.{Path}
use Rattle.tree_dev.specs.Tree.{Keeps}
use Rattle.globs.specs.OwnedFiles.{cleared}
use Rattle.capture.proofs.Puts.{over}
use Rattle.capture.proofs.restoring.put_all.Given as goal

abbrev pub invariant-loop-file : goal.invariant-loop-file
invariant-loop-file g l = record {
  keeps : Keeps (g.T.Tree.state l.fn.tree) (g.T.Tree.state l.tree);
  faults : (g.T.Tree.state l.tree).faults ≡ (g.T.Tree.state l.fn.tree).faults;
  over : g.T.Tree.tells → (path : Path) → (g.T.Tree.state l.tree).files path ≡ over (take l.file-index l.stored) (cleared l.outs (g.T.Tree.state l.fn.tree).files) path;
}
