-- When a store answers what.
use Rattle.std.specs.Prelude.{◌≡◌, Bool, true, false, Result, Err}
use Rattle.record_log.specs.Frames.{Fault}
use Rattle.record_log.specs.Frames.Fault.{NotAStore as NoStore, Damaged as DamagedAt}
use Rattle.record_log.specs.declared.error.LogErr.{LogErr}
use Rattle.record_log.specs.declared.error.LogErr.TheVariants as log
use Rattle.cache_api.specs.declared.error.CacheErr.{CacheErr}
use Rattle.cache_api.specs.declared.error.CacheErr.TheVariants as cache
use Rattle.artifact_store.specs.declared.error.OpenErr.{OpenErr}
use Rattle.artifact_store.specs.declared.error.OpenErr.TheVariants.{NotAStore, Damaged, Failed, OutOfMemory}

-- a log's error at its opening as a store's; a log is never full then
abbrev pub opens_as : LogErr → OpenErr
opens_as log.NotAStore = NotAStore
opens_as (log.Damaged at) = Damaged at
opens_as log.Failed = Failed
opens_as _ = OutOfMemory

-- the device failed, which it counts
abbrev pub is_fault : OpenErr → Bool
is_fault Failed = true
is_fault _ = false

-- an error as a result
abbrev pub raised : OpenErr → Result (Unit {0}) OpenErr
raised e = Err e

-- `NotAStore` and `Damaged` come as the reading of the bytes says
abbrev pub IsFaultOf : {A : Type 0} → OpenErr → Result A Fault → Type 0
IsFaultOf NotAStore read = read ≡ Err NoStore
IsFaultOf (Damaged at) read = read ≡ Err (DamagedAt at)
IsFaultOf _ read = Unit {0}

-- a cache's error at the opening; it is never full then
abbrev pub reads_as : CacheErr → OpenErr
reads_as cache.Failed = Failed
reads_as _ = OutOfMemory

-- the errors that come behind the opening of the log
abbrev pub IsIndexErr : OpenErr → Type 0
IsIndexErr Failed = Unit {0}
IsIndexErr OutOfMemory = Unit {0}
IsIndexErr _ = ⊥
