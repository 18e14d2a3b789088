-- When a device answers `Failed`.
use Rattle.std.specs.Prelude.{◌≡◌, ℕ, Bool, true, false, Result, IfErr}
use Rattle.rel_path.specs.Causes.{Counts}
use Rattle.tree_dev.specs.declared.error.DevErr.{DevErr}
use Rattle.tree_dev.specs.declared.error.DevErr.TheVariants.{Failed, OutOfMemory}

abbrev pub is_failed : DevErr → Bool
is_failed Failed = true
is_failed OutOfMemory = false

-- `Failed` comes only where the count of faults rose, and every other answer leaves it as it is
abbrev pub HasCause : {T : Type 0} → ℕ → ℕ → Result T DevErr → Type 0
HasCause before now result = Counts is_failed before now result

-- no error but want of memory, which may come at any time
abbrev pub OnlyMemory : {T : Type 0} → Result T DevErr → Type 0
OnlyMemory result = IfErr result (λ e. e ≡ OutOfMemory)
