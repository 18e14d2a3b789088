use Rattle.std.proofs.Common.{◌≡◌, take, drop}
use Rattle.tree_dev.specs.Tree.{Looks}
use Rattle.workspaces.specs.Space.{packages_at}
use Rattle.workspaces.specs.Reading.{AreReadIn, and_then}
use Rattle.workspaces.proofs.reading.read_packages.Given as goal

-- the packages so far, and those of the folders that are left
abbrev pub invariant-loop-folder : goal.invariant-loop-folder
invariant-loop-folder g l =
    let old = g.T.Tree.state l.initial.tree in
    let now = g.T.Tree.state l.tree in
    record {
      looks : Looks old now;
      faults : now.faults ≡ old.faults;
      own : AreReadIn (take l.folder-index l.folders) l.packages.items;
      found : g.T.Tree.tells → packages_at old.files l.folders ≡ and_then l.packages.items (packages_at old.files (drop l.folder-index l.folders));
    }
