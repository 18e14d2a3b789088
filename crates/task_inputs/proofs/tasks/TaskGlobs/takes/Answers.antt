use Rattle.std.proofs.Common.{refl}
use Rattle.task_inputs.specs.Facts.{takes_by}
use Rattle.task_inputs.proofs.tasks.TaskGlobs.takes.Goals as goal

pub returns-then-not-file-clause-value : goal.returns-then-not-file-clause-value
unfolding takes_by
returns-then-not-file-clause-value c = rw (← c.if-is_file_in.ensures, ← c.if-is_file_in-2.ensures, c.if-not-file.true) refl

pub returns-else-asks-clause-value : goal.returns-else-asks-clause-value
unfolding takes_by
returns-else-asks-clause-value c =
    rw (← c.if-is_file_in.ensures, ← c.if-is_file_in-2.ensures, c.if-not-file.false, ← c.in_ok-asks.ensures.value, c.if-asks.false) refl
