-- When a pool answers what.
use Rattle.std.specs.Prelude.{◌≡◌, ◌<◌, ◌≤◌, ℕ, Result, Ok, Err}
use Rattle.record_log.specs.declared.error.LogErr.{LogErr}
use Rattle.record_log.specs.declared.error.LogErr.TheVariants.{Full}

-- `Full` comes only where more is needed than is free, and tells both; `Ok` only where it fits. Another error may come
-- before the sizes are known.
abbrev pub IsFullFor : {T : Type 0} → Result T LogErr → ℕ → ℕ → Type 0
IsFullFor (Ok _) need free = need ≤ free
IsFullFor (Err (Full n f)) need free = (n ≡ need) × (f ≡ free) × (free < need)
IsFullFor (Err _) need free = Unit {0}
