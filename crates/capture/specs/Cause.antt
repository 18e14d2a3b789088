-- When taking owned files out or in answers that a device failed.
use Rattle.std.specs.Prelude.{ℕ, Bool, true, false, Result}
use Rattle.rel_path.specs.Causes.{Counts}
use Rattle.tree_dev.specs.declared.error.DevErr.{DevErr}
use Rattle.tree_dev.specs.declared.error.DevErr.TheVariants as device
use Rattle.cache_api.specs.declared.error.CacheErr.{CacheErr}
use Rattle.cache_api.specs.declared.error.CacheErr.TheVariants as cache
use Rattle.capture.specs.declared.error.CapErr.{CapErr}
use Rattle.capture.specs.declared.error.CapErr.TheVariants.{Shared, TooLarge, Failed, OutOfMemory}
use Rattle.capture.specs.declared.error.HitErr.{HitErr}
use Rattle.capture.specs.declared.error.HitErr.TheVariants as hit

-- a device's answer as one of this crate's
abbrev pub as_device : DevErr → CapErr
as_device device.Failed = Failed
as_device device.OutOfMemory = OutOfMemory

abbrev pub is_failed : CapErr → Bool
is_failed (Shared path) = false
is_failed (TooLarge path) = false
is_failed Failed = true
is_failed OutOfMemory = false

-- `Failed` comes only where the tree's count of faults rose, and every other answer leaves it as it is
abbrev pub HasCause : {T : Type 0} → ℕ → ℕ → Result T CapErr → Type 0
HasCause before now result = Counts is_failed before now result

-- ---- what stops putting back a hit

-- a failure to clear
abbrev pub of_clearing : CapErr → HitErr
of_clearing (Shared path) = hit.OutOfMemory
of_clearing (TooLarge path) = hit.OutOfMemory
of_clearing Failed = hit.TreeFault
of_clearing OutOfMemory = hit.OutOfMemory

-- a failure to write
abbrev pub of_tree : DevErr → HitErr
of_tree device.Failed = hit.TreeFault
of_tree device.OutOfMemory = hit.OutOfMemory

-- a failure to read the cache
abbrev pub of_cache : CacheErr → HitErr
of_cache cache.Full = hit.OutOfMemory
of_cache cache.Failed = hit.StoreFault
of_cache cache.OutOfMemory = hit.OutOfMemory

abbrev pub is_tree_fault : HitErr → Bool
is_tree_fault hit.TreeFault = true
is_tree_fault hit.StoreFault = false
is_tree_fault hit.OutOfMemory = false

abbrev pub is_store_fault : HitErr → Bool
is_store_fault hit.TreeFault = false
is_store_fault hit.StoreFault = true
is_store_fault hit.OutOfMemory = false
