-- Calls whose only error is want of memory, and sizes that stop at the greatest number.
use Rattle.std.specs.Prelude.{◌≡◌, ℕ, ◌-◌, ◌^◌, min, Result, IfErr}
use Rattle.cache_api.specs.declared.error.CacheErr.{CacheErr}
use Rattle.cache_api.specs.declared.error.CacheErr.TheVariants.{OutOfMemory}

-- no error but want of memory, which may come at any time
abbrev pub OnlyMemory : {T : Type 0} → Result T CacheErr → Type 0
OnlyMemory result = IfErr result (λ e. e ≡ OutOfMemory)

-- the number, or the greatest `u64` where it is more
abbrev pub capped : ℕ → ℕ
capped n = min n (2 ^ 64 - 1)
