-- What stops the reading of a repository and the planning of a run.
use Rattle.std.specs.Prelude.{◌≡◌, ℕ, Bool, true, false, Result, IfErr}
use Rattle.rel_path.specs.Causes.{Counts}
use Rattle.refusals.specs.declared.stop.Stop.{Stop}
use Rattle.refusals.specs.declared.stop.Stop.TheVariants.{Refused, Failed, OutOfMemory}

-- the tree failed
abbrev pub is_failed : Stop → Bool
is_failed (Refused reason) = false
is_failed Failed = true
is_failed OutOfMemory = false

-- `Failed` comes only where the tree's count of faults rose, and every other answer leaves it as it is
abbrev pub HasCause : {T : Type 0} → ℕ → ℕ → Result T Stop → Type 0
HasCause before now result = Counts is_failed before now result

-- no error but want of memory, which may come at any time
abbrev pub OnlyMemory : {T : Type 0} → Result T Stop → Type 0
OnlyMemory result = IfErr result (λ e. e ≡ OutOfMemory)
