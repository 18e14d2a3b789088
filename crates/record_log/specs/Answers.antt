-- When a log answers what.
use Rattle.std.specs.Prelude.{◌≡◌, ◌<◌, ◌≤◌, ℕ, Bool, true, false, Result, Err}
use Rattle.rel_path.specs.Causes.{Counts}
use Rattle.store_dev.specs.declared.device.StoreErr.{StoreErr}
use Rattle.store_dev.specs.declared.device.StoreErr.TheVariants as store
use Rattle.record_log.specs.Kinds.{Entry}
use Rattle.record_log.specs.Frames.{Fault}
use Rattle.record_log.specs.Frames.Fault.{NotAStore as NoStore, Damaged as DamagedAt}
use Rattle.record_log.specs.declared.error.LogErr.{LogErr}
use Rattle.record_log.specs.declared.error.LogErr.TheVariants.{NotAStore, Damaged, Full, Failed, OutOfMemory}
use Rattle.record_log.specs.declared.frame.Frame.{Frame}

-- a device's error as a log's
abbrev pub of_store : StoreErr → LogErr
of_store store.Failed = Failed
of_store store.OutOfMemory = OutOfMemory

-- the device failed, which it counts
abbrev pub is_fault : LogErr → Bool
is_fault Failed = true
is_fault _ = false

-- that is told by the device's count of faults over a call
abbrev pub Counted : {T : Type 0} → ℕ → ℕ → Result T LogErr → Type 0
Counted before now result = Counts is_fault before now result

-- the errors of opening
abbrev pub IsOpenErr : LogErr → Type 0
IsOpenErr (Full _ _) = ⊥
IsOpenErr _ = Unit {0}

-- of appending
abbrev pub IsAppendErr : LogErr → Type 0
IsAppendErr NotAStore = ⊥
IsAppendErr (Damaged _) = ⊥
IsAppendErr _ = Unit {0}

-- and of reading
abbrev pub IsReadErr : LogErr → Type 0
IsReadErr Failed = Unit {0}
IsReadErr OutOfMemory = Unit {0}
IsReadErr _ = ⊥

-- after `Failed` the log is not whole, and every other answer leaves that as it is
abbrev pub WholeAfter : {T : Type 0} → Result T LogErr → Bool → Bool → Type 0
WholeAfter (Err Failed) before now = now ≡ false
WholeAfter _ before now = now ≡ before

-- `Full` comes exactly where more is needed than is free, and tells both
abbrev pub IsFullWhere : {T : Type 0} → Result T LogErr → ℕ → ℕ → Type 0
IsFullWhere (Err (Full n f)) need free = (n ≡ need) × (f ≡ free) × (free < need)
IsFullWhere _ need free = need ≤ free

-- `NotAStore` and `Damaged` come as the reading of the bytes says
abbrev pub IsFaultOf : {T A : Type 0} → Result T LogErr → Result A Fault → Type 0
IsFaultOf (Err NotAStore) read = read ≡ Err NoStore
IsFaultOf (Err (Damaged at)) read = read ≡ Err (DamagedAt at)
IsFaultOf _ read = Unit {0}

-- an error as a result
abbrev pub raised : LogErr → Result (Unit {0}) LogErr
raised e = Err e

-- a frame without where it lies in memory
abbrev pub entry_of : Frame → Entry
entry_of f = record { kind = f.kind; key = f.key; value = f.value }
