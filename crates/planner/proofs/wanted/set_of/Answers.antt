use Rattle.task_graph.specs.Ids.{has}
use Rattle.planner.proofs.Entered.{entered}
use Rattle.planner.proofs.wanted.set_of.Goals as goal

pub loop-task-preserved : goal.loop-task-preserved
loop-task-preserved c id = entered (has c.loop-task.set.keys id) (has c.insert.new.self.keys id) c.loop-task.yielded c.in-Some.task id (c.loop-task.invariant id) (c.in_ok-insert.ensures.updates.0 id)
