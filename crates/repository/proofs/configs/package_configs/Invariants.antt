use Rattle.std.proofs.Common.{◌≡◌, drop}
use Rattle.tree_dev.specs.Tree.{Looks}
use Rattle.repository.specs.Reading.{package_configs}
use Rattle.repository.proofs.Files.{and_then}
use Rattle.repository.proofs.configs.package_configs.Given as goal

-- the files so far, and those of the packages that are left
abbrev pub invariant-loop-home : goal.invariant-loop-home
invariant-loop-home g l =
    let old = g.T.Tree.state l.initial.tree in
    let now = g.T.Tree.state l.tree in
    record {
      looks : Looks old now;
      faults : now.faults ≡ old.faults;
      found : g.T.Tree.tells → package_configs old.files l.homes ≡ and_then l.files.items (package_configs old.files (drop l.home-index l.homes));
    }
