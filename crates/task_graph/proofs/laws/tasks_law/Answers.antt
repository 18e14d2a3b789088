use Rattle.task_graph.proofs.TaskFacts.{tasks_are}
use Rattle.task_graph.proofs.laws.tasks_law.Goals as goal

pub returns : goal.returns
returns c = tasks_are
