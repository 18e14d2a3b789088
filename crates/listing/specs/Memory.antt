-- Calls whose only error is want of memory, and room for more than there can be.
use Rattle.std.specs.Prelude.{◌≡◌, ℕ, ◌-◌, ◌^◌, min, Result, IfErr}
use Rattle.listing.specs.declared.error.ListErr.{ListErr}
use Rattle.listing.specs.declared.error.ListErr.TheVariants.{OutOfMemory}

-- no error but want of memory, which may come at any time
abbrev pub OnlyMemory : {T : Type 0} → Result T ListErr → Type 0
OnlyMemory result = IfErr result (λ e. e ≡ OutOfMemory)

-- the number, or the greatest `usize` where it is more
abbrev pub capped : ℕ → ℕ
capped n = min n (2 ^ 64 - 1)
