use Rattle.std.proofs.Common.{take}
use Rattle.pruned_files.specs.Calls.{owners_at}
use Rattle.pruned_files.specs.Folders.{AreFoldersOf}
use Rattle.pruned_files.proofs.folders.owner_folders.Given as goal

-- those of the owners so far
abbrev pub invariant-loop-number : goal.invariant-loop-number
invariant-loop-number l = AreFoldersOf (owners_at l.packages (take l.number-index l.numbers)) l.folders
