-- The repository that the files of a pruning make.
use Rattle.std.proofs.Common.{◌∙◌}
use Rattle.pruned_files.specs.Pruned.{pruned_files, pruned_contents}
use Rattle.pruned_reading.specs.Laws.{ReadingLaw}
use Rattle.pruned_reading.proofs.Read.{read, means}
use Rattle.pruned_reading.proofs.Walking.{walks}
use Rattle.pruned_reading.proofs.RootFiles.{root_same, lock_stays}
use Rattle.pruned_reading.proofs.Packages.{space_stays}
use Rattle.pruned_reading.proofs.Configs.{setup_stays}

pub pruned_means : ReadingLaw
pruned_means files contents targets p whole is small =
    let after = pruned_files p files in
    let end = pruned_contents contents p in
    let r = read files contents whole in
    means after end.space.root end.lock end.walk end.space end.setup (root_same r is ∙ r.root) (lock_stays r is small) (walks r is)
    (space_stays r is) (setup_stays r is)
