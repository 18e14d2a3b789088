-- Counts of faults, by which a device's failures are told from want of memory.
use Rattle.std.specs.Prelude.{◌≡◌, ℕ, ◌+◌, ◌-◌, ◌^◌, ◌≤◌, min, Bool, MatchBool, Result, Ok, Err}

-- the count is greater than before, or it stood at the last value of a u64
abbrev pub Rose : ℕ → ℕ → Type 0
Rose before now = min (before + 1) (2 ^ 64 - 1) ≤ now

-- a fault comes only where the count rose, and every other answer leaves the count as it is
abbrev pub CountsFaults : {T E : Type 0} → (E → Bool) → ℕ → ℕ → Result T E → Type 0
CountsFaults is_fault before now (Ok _) = now ≡ before
CountsFaults is_fault before now (Err e) = MatchBool (is_fault e) (Rose before now) (now ≡ before)

-- the count of a device over one call: it never falls, and it tells when a fault may come
pub record Counts {T E : Type 0} (is_fault : E → Bool) (before now : ℕ) (result : Result T E) : Type 0 where
  pub later : before ≤ now
  pub counted : CountsFaults is_fault before now result
