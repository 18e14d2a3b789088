use Rattle.std.proofs.Common.{take}
use Rattle.kept_packages.specs.Needs.{Gains}
use Rattle.kept_packages.specs.Steps.{AnyTaskNames}
use Rattle.kept_packages.proofs.tasks.add_tasks.Given as goal

-- the owners that the tasks so far name
abbrev pub invariant-loop-task : goal.invariant-loop-task
invariant-loop-task l = Gains l.packages (AnyTaskNames l.packages l.config l.owner (take l.task-index l.tasks)) l.initial.found.items l.found.items
