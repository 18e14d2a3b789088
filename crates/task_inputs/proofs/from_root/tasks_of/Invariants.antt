use Rattle.std.proofs.Common.{take}
use Rattle.workspaces.specs.Space.{owners}
use Rattle.task_inputs.specs.Rooted.{AreTasksOf}
use Rattle.task_inputs.proofs.from_root.tasks_of.Given as goal

-- the tasks of the names so far
abbrev pub invariant-loop-name : goal.invariant-loop-name
invariant-loop-name l = AreTasksOf l.config (owners l.packages) l.owner (take l.name-index l.names) l.tasks.items
