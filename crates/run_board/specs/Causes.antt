-- What stops a run.
use Rattle.run_plan.specs.Answers.{Cause}
use Rattle.run_plan.specs.Answers.Cause.{Device, Output, Memory}
use Rattle.task_devices.specs.declared.error.RunErr.{RunErr}
use Rattle.task_devices.specs.declared.error.RunErr.TheVariants.{TreeFault, StoreFault, StartFault, SinkFault, OutOfMemory}

-- what stopped the run
abbrev pub cause_of : RunErr → Cause
cause_of TreeFault = Device
cause_of StoreFault = Device
cause_of StartFault = Device
cause_of SinkFault = Output
cause_of OutOfMemory = Memory
