use Rattle.std.proofs.Common.{◌≡◌, ◌++◌, drop}
use Rattle.workspaces.specs.Space.{owners}
use Rattle.task_graph.specs.Tasks.{tasks_in}
use Rattle.task_graph.proofs.lookup.add_tasks.Given as goal

abbrev pub invariant-loop-owner : goal.invariant-loop-owner
invariant-loop-owner l = l.tasks.items ++ tasks_in (owners l.packages) l.config (drop l.owner-index l.places) l.name ≡ l.initial.tasks.items ++ tasks_in (owners l.packages) l.config l.places l.name
