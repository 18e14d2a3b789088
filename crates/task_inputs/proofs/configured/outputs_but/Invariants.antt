use Rattle.std.proofs.Common.{◌≡◌, take}
use Rattle.task_inputs.specs.Lone.{rest_of}
use Rattle.task_inputs.proofs.configured.outputs_but.Given as goal

-- the outputs of the others so far
abbrev pub invariant-loop-other : goal.invariant-loop-other
invariant-loop-other l = l.lists ≡ rest_of l.task (take l.other-index l.tasks)
