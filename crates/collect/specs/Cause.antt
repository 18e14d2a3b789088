-- When collecting a listing answers `Failed`.
use Rattle.std.specs.Prelude.{ℕ, Bool, true, false, Result}
use Rattle.rel_path.specs.Causes.{Counts}
use Rattle.collect.specs.declared.error.CollectErr.{CollectErr}
use Rattle.collect.specs.declared.error.CollectErr.TheVariants.{Missing, TooLarge, TooMuch, Failed, OutOfMemory}

abbrev pub is_failed : CollectErr → Bool
is_failed (Missing from name) = false
is_failed (TooLarge path) = false
is_failed (TooMuch bytes) = false
is_failed Failed = true
is_failed OutOfMemory = false

-- `Failed` comes only where the tree's count of faults rose, and every other answer leaves it as it is
abbrev pub HasCause : {T : Type 0} → ℕ → ℕ → Result T CollectErr → Type 0
HasCause before now result = Counts is_failed before now result
