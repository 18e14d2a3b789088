use Rattle.std.proofs.Common.{take}
use Rattle.pruned_files.specs.Folders.{AreFoldersOf}
use Rattle.pruned_files.proofs.folders.package_folders.Given as goal

-- those of the packages so far
abbrev pub invariant-loop-number : goal.invariant-loop-number
invariant-loop-number l = AreFoldersOf (take l.number l.packages.packages) l.folders
