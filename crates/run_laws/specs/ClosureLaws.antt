-- Laws of closures.
use Rattle.std.specs.Prelude.{◌≡◌, ℕ, ◌<◌, length, slice_get}
use Rattle.listing.specs.declared.part.Listing.{Listing}
use Rattle.run_core.specs.declared.states.Mode.{Mode}
use Rattle.run_laws.specs.Picks.{last}
use Rattle.run_laws.specs.Ancestors.{IsLower}
use Rattle.run_laws.specs.Closures.{closure}
use Rattle.run_laws.specs.Valid.{IsOrdered, IsValid}
use Rattle.run_laws.specs.Effects.{Book}
use Rattle.run_laws.specs.Clean.{clean}

-- the last outcome over the closure of a place is the outcome at the place, in every mode
abbrev pub ClosureLaw : Type 0
ClosureLaw = (mode : Mode) (book : Book) (l : Listing) (i : ℕ) → IsLower l → i < length l.parts → last (clean mode book (closure l i)) ≡ slice_get (clean mode book l) i

-- the closure of an ordered listing is ordered
abbrev pub ClosureIsOrdered : Type 0
ClosureIsOrdered = (l : Listing) (i : ℕ) → IsOrdered l → IsOrdered (closure l i)

-- the closure of a valid listing is valid
abbrev pub ClosureIsValid : Type 0
ClosureIsValid = (l : Listing) (i : ℕ) → IsValid l → IsValid (closure l i)
