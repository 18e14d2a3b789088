-- The fault of a glob: of several the one with the least place.
use Rattle.std.specs.Prelude.{◌+◌, ◌-◌, ◌^◌, ℕ, min, false, List, [], Option, Some, None, nat_lt, if◌then◌else◌}
use Rattle.glob_syntax.specs.declared.token.Token.{Token}
use Rattle.glob_syntax.specs.declared.error.GlobErr.{GlobErr}
use Rattle.glob_syntax.specs.declared.error.GlobErr.TheVariants as err
use Rattle.glob_syntax.specs.Braces.{brace_fault}
use Rattle.glob_syntax.specs.Pieces.{pieces_of}
use Rattle.glob_syntax.specs.Climbs.{climb_of}

abbrev pub place_of : GlobErr → ℕ
place_of (err.OpenClass at) = at
place_of (err.OpenBrace at) = at
place_of (err.Nested at) = at
place_of (err.Climbs at) = at
place_of (err.Wide at) = at
place_of err.OutOfMemory = 0

-- the place, so much further on, where that is a u64
abbrev pub further : ℕ → ℕ → ℕ
further by at = min (at + by) (2 ^ 64 - 1)

-- the fault with its place so much further on
abbrev pub moved : ℕ → GlobErr → GlobErr
moved by (err.OpenClass at) = err.OpenClass (further by at)
moved by (err.OpenBrace at) = err.OpenBrace (further by at)
moved by (err.Nested at) = err.Nested (further by at)
moved by (err.Climbs at) = err.Climbs (further by at)
moved by (err.Wide at) = err.Wide (further by at)
moved by err.OutOfMemory = err.OutOfMemory

-- the fault with the lesser place
abbrev pub earlier : Option GlobErr → Option ℕ → Option GlobErr
earlier None None = None
earlier None (Some at) = Some (err.Climbs at)
earlier (Some fault) None = Some fault
earlier (Some fault) (Some at) = if nat_lt at (place_of fault) then Some (err.Climbs at) else Some fault

-- the pieces of a whole glob
abbrev pub pieces_in : List Token → List (List (List Token))
pieces_in tokens = pieces_of false [] [] tokens

unfoldable pub first_fault : List Token → Option GlobErr
first_fault tokens = earlier (brace_fault false 1 tokens) (climb_of (pieces_in tokens))
