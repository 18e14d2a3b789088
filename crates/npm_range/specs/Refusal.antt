-- Why a text is no range.
use Rattle.std.specs.Prelude.{◌≡◌, ◌⊎◌, Option, None, Some, Result, MatchResult}
use Rattle.npm_range.specs.declared.error.RangeErr.{RangeErr}
use Rattle.npm_range.specs.declared.error.RangeErr.TheVariants.{NotARange, OutOfMemory}

-- want of memory, or the text says nothing
abbrev pub MayRefuse : {T : Type 0} → Option T → RangeErr → Type 0
MayRefuse said e = (e ≡ OutOfMemory) ⊎ ((e ≡ NotARange) × (said ≡ None))

-- the value is what is said; there is none only where nothing is said, or for want of memory
abbrev pub Says : {T : Type 0} → Option T → Result T RangeErr → Type 0
Says said result = MatchResult result (λ value. said ≡ Some value) (MayRefuse said)
