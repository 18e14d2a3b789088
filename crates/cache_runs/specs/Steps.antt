-- What a run that stopped answers.
use Rattle.task_devices.specs.declared.error.RunErr.{RunErr}
use Rattle.task_devices.specs.declared.error.RunErr.TheVariants as run
use Rattle.answers.specs.declared.answer.Answer.{Answer}
use Rattle.answers.specs.declared.answer.Answer.TheVariants as answer

abbrev pub answer_of : RunErr → Answer
answer_of run.TreeFault = answer.TreeFault
answer_of run.StoreFault = answer.StoreFault
answer_of run.StartFault = answer.StartFault
answer_of run.SinkFault = answer.SinkFault
answer_of run.OutOfMemory = answer.OutOfMemory
