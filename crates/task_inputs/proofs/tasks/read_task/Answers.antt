use Rattle.std.proofs.Common.{arith}
use Rattle.workspaces.specs.Space.{owners}
use Rattle.task_inputs.proofs.ReadTasks.{task_read}
use Rattle.task_inputs.proofs.tasks.read_task.Goals as goal

pub returns-clause-read : goal.returns-clause-read
returns-clause-read c = task_read (owners c.args.packages.now) c.args.task.now c.folder.result.now c.in_ok-copy.field-0 c.in_ok-read_list.field-0 (omega arith) c.folder.ensures c.in_ok-copy.ensures.value c.in_ok-read_list.ensures.read
