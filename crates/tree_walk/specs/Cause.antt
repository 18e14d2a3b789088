-- When going through a tree answers `Failed`.
use Rattle.std.specs.Prelude.{ℕ, Bool, true, false, Result}
use Rattle.rel_path.specs.Causes.{Counts}
use Rattle.tree_walk.specs.declared.error.WalkErr.{WalkErr}
use Rattle.tree_walk.specs.declared.error.WalkErr.TheVariants.{TooDeep, TooMany, Failed, OutOfMemory}

abbrev pub is_failed : WalkErr → Bool
is_failed (TooDeep path) = false
is_failed TooMany = false
is_failed Failed = true
is_failed OutOfMemory = false

-- `Failed` comes only where the count of faults rose, and every other answer leaves it as it is
abbrev pub HasCause : {T : Type 0} → ℕ → ℕ → Result T WalkErr → Type 0
HasCause before now result = Counts is_failed before now result
