use Rattle.std.proofs.Common.{take}
use Rattle.workspaces.specs.Space.{owners}
use Rattle.task_inputs.specs.Rooted.{AreTasks}
use Rattle.task_inputs.proofs.from_root.all_tasks.Given as goal

-- the tasks of the owners so far
abbrev pub invariant-loop-owner : goal.invariant-loop-owner
invariant-loop-owner l = AreTasks l.config (owners l.packages) (take l.owner-index l.kept) l.names l.tasks.items
