-- A device's errors.
use Rattle.std.specs.Prelude.{◌≡◌, Bool, true, false, Result, IfErr}
use Rattle.store_dev.specs.declared.device.StoreErr.{StoreErr}
use Rattle.store_dev.specs.declared.device.StoreErr.TheVariants.{Failed, OutOfMemory}

-- the device failed, which it counts
abbrev pub is_fault : StoreErr → Bool
is_fault Failed = true
is_fault OutOfMemory = false

-- of a call that takes no memory
abbrev pub OnlyFails : {T : Type 0} → Result T StoreErr → Type 0
OnlyFails result = IfErr result (λ e. e ≡ Failed)
