-- Calls whose only error is want of memory.
use Rattle.std.specs.Prelude.{◌≡◌, Result, IfErr}
use Rattle.run_plan.specs.declared.error.PlanErr.{PlanErr}
use Rattle.run_plan.specs.declared.error.PlanErr.TheVariants.{OutOfMemory}

-- no error but want of memory, which may come at any time
abbrev pub OnlyMemory : {T : Type 0} → Result T PlanErr → Type 0
OnlyMemory result = IfErr result (λ e. e ≡ OutOfMemory)
