use Rattle.workspaces.specs.Space.{owners}
use Rattle.task_inputs.specs.Folders.{Numbers}
use Rattle.task_inputs.proofs.declared.all_folders.Given as goal

-- the numbers so far
abbrev pub invariant-loop-p : goal.invariant-loop-p
invariant-loop-p l = Numbers (owners l.packages) l.p l.folders
