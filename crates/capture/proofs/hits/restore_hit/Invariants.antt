use Rattle.std.proofs.Common.{◌≡◌, ◌+◌, ◌≤◌, length, take}
use Rattle.std.specs.Prelude.{sum_by}
use Rattle.rel_path.specs.Paths.{Path}
use Rattle.tree_dev.specs.Tree.{Keeps, Looks}
use Rattle.globs.specs.OwnedFiles.{restored, SameOutside}
use Rattle.cache_api.specs.Cache.{CacheReads}
use Rattle.cache_api.specs.Hits.{paths_of}
use Rattle.capture.specs.Kept.{cleared_but}
use Rattle.capture.proofs.Puts.{over}
use Rattle.capture.proofs.hits.restore_hit.Given as goal

-- the files so far, and that both devices did well
abbrev pub invariant-loop-index : goal.invariant-loop-index
invariant-loop-index g l = record {
  reads : CacheReads g.C.Cache.tells g.C.Cache.state g.C.Cache.cost g.C.Cache.stands g.C.Cache.shows g.C.Cache.moment g.C.Cache.left g.C.Cache.says l.fn.cache l.cache;
  whole : (g.C.Cache.state l.cache).whole ≡ (g.C.Cache.state l.fn.cache).whole;
  stored : (g.C.Cache.state l.cache).faults ≡ (g.C.Cache.state l.fn.cache).faults;
  probes : (g.C.Cache.state l.cache).probes ≤ (g.C.Cache.state l.fn.cache).probes + (length l.hit.log + sum_by (λ file. length file.spans) (take l.index l.hit.files));
  keeps : Keeps (g.T.Tree.state l.fn.tree) (g.T.Tree.state l.tree);
  faults : (g.T.Tree.state l.tree).faults ≡ (g.T.Tree.state l.fn.tree).faults;
  others : g.T.Tree.tells → SameOutside l.outs (g.T.Tree.state l.fn.tree).files (g.T.Tree.state l.tree).files;
  over : g.T.Tree.tells → g.C.Cache.tells → (path : Path) → (g.T.Tree.state l.tree).files path ≡ over (take l.index (g.C.Cache.shows l.fn.cache l.hit).1) (cleared_but l.outs (paths_of l.hit) (g.T.Tree.state l.fn.tree).files) path;
  same : g.T.Tree.tells → g.C.Cache.tells → (g.T.Tree.state l.fn.tree).files ≡ restored l.outs (g.C.Cache.shows l.fn.cache l.hit).1 (g.T.Tree.state l.fn.tree).files → Looks (g.T.Tree.state l.fn.tree) (g.T.Tree.state l.tree);
}
