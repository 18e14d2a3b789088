use Rattle.std.proofs.Common.{◌≡◌, take}
use Rattle.std.specs.Prelude.{None}
use Rattle.std.specs.Option.{option_map}
use Rattle.tree_dev.specs.Tree.{Keeps}
use Rattle.prune.specs.Folders.{first_over}
use Rattle.prune.specs.Steps.{copied, IsSame}
use Rattle.prune.proofs.copying.copy_all.Given as goal

-- the files so far were copied
abbrev pub invariant-loop-path : goal.invariant-loop-path
invariant-loop-path g l = record {
  keeps : Keeps (g.T.Tree.state l.fn.tree) (g.T.Tree.state l.tree);
  faults : (g.T.Tree.state l.tree).faults ≡ (g.T.Tree.state l.fn.tree).faults;
  small : g.T.Tree.tells → first_over (g.T.Tree.state l.fn.tree).files (take l.path-index l.paths) ≡ None;
  told : g.T.Tree.tells → IsSame (g.T.Tree.state l.tree).files (copied (option_map (λ b. b.now) l.text) l.folder (take l.path-index l.paths) (g.T.Tree.state l.fn.tree).files);
}
