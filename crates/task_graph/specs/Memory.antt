-- Calls whose only error is want of memory.
use Rattle.std.specs.Prelude.{◌≡◌, Result, IfErr}
use Rattle.task_graph.specs.declared.error.GraphErr.{GraphErr}
use Rattle.task_graph.specs.declared.error.GraphErr.TheVariants.{OutOfMemory}

-- no error but want of memory, which may come at any time
abbrev pub OnlyMemory : {T : Type 0} → Result T GraphErr → Type 0
OnlyMemory result = IfErr result (λ e. e ≡ OutOfMemory)
