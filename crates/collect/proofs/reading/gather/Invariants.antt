use Rattle.std.proofs.Common.{◌≡◌, length, take}
use Rattle.std.specs.Prelude.{zip}
use Rattle.tree_dev.specs.Tree.{Looks}
use Rattle.collect.specs.Steps.{GathersAll, GathersSome, known, is_large_at}
use Rattle.collect.proofs.reading.gather.Given as goal

abbrev pub invariant-loop-place : goal.invariant-loop-place
invariant-loop-place g l = record {
  looks : Looks (g.T.Tree.state l.fn.tree) (g.T.Tree.state l.tree);
  faults : (g.T.Tree.state l.tree).faults ≡ (g.T.Tree.state l.fn.tree).faults;
  same : length l.gathered.found.items ≡ l.place;
  some : GathersSome l.ignores (take l.place (zip l.marks l.walk)) l.gathered;
  told : g.T.Tree.tells → GathersAll (known l.ignores (g.T.Tree.state l.fn.tree).files) (is_large_at (g.T.Tree.state l.fn.tree).files) (take l.place (zip l.marks l.walk)) l.gathered;
}
