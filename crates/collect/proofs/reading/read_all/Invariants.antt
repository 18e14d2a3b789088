use Rattle.std.proofs.Common.{◌≡◌, take}
use Rattle.std.specs.Prelude.{Ok}
use Rattle.tree_dev.specs.Tree.{Looks}
use Rattle.collect.specs.Steps.{ReadsAll, ReadsSome}
use Rattle.collect.proofs.reading.read_all.Given as goal

abbrev pub invariant-loop-path : goal.invariant-loop-path
invariant-loop-path g l = record {
  looks : Looks (g.T.Tree.state l.fn.tree) (g.T.Tree.state l.tree);
  faults : (g.T.Tree.state l.tree).faults ≡ (g.T.Tree.state l.fn.tree).faults;
  some : ReadsSome (take l.path-index l.paths) l.files;
  told : g.T.Tree.tells → ReadsAll (g.T.Tree.state l.fn.tree).files (take l.path-index l.paths) (Ok l.files);
}
