use Rattle.std.proofs.Common.{take}
use Rattle.collect.specs.Listings.{ArePaired}
use Rattle.collect.specs.Steps.{IsTaskOf}
use Rattle.collect.proofs.tasks.defined_tasks.Given as goal

abbrev pub invariant-loop-task : goal.invariant-loop-task
invariant-loop-task l = ArePaired (λ w t. IsTaskOf l.config l.packages w.id t) (take l.task-index l.wanted) l.tasks.items
