use Rattle.std.proofs.Common.{◌≡◌, ◌≤◌, length, map, drop}
use Rattle.rel_path.specs.Paths.{path_cmp}
use Rattle.workspaces.specs.Lists.{ascending}
use Rattle.collect.proofs.exclusions.folders_of.Given as goal

-- those of the packages from this one on
abbrev pub invariant-loop-p : goal.invariant-loop-p
invariant-loop-p l = record {
  within : l.p ≤ length l.packages.packages;
  keys : l.folders.keys ≡ ascending path_cmp (map (λ m. m.folder) (drop l.p l.packages.packages));
}

abbrev pub decreases-loop-p : goal.decreases-loop-p
decreases-loop-p l = l.p
