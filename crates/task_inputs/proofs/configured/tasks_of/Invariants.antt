use Rattle.std.proofs.Common.{◌≡◌, take}
use Rattle.task_inputs.specs.Lone.{lone_tasks}
use Rattle.task_inputs.proofs.configured.tasks_of.Given as goal

-- the tasks of the scripts so far
abbrev pub invariant-loop-script : goal.invariant-loop-script
invariant-loop-script l = l.tasks.items ≡ lone_tasks l.config l.name l.folder (take l.script-index l.scripts)
