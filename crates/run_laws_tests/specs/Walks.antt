-- Elements of a list by their places, as a walk over the list comes to them.
use Rattle.std.specs.Prelude.{ℕ, ◌+◌, ◌&&◌, ◌||◌, Bool, false, if◌then◌else◌, List, [], ◌∷◌, Option, Some, None}
use Rattle.rel_path.specs.Paths.{Path, is_among}
use Rattle.rel_path.specs.Files.{file_at}
use Rattle.listing.specs.declared.part.Part.{Part}
use Rattle.run_laws.specs.declared.outcome.Outcome.{Outcome}
use Rattle.run_laws.specs.Closures.{renumbered}
use Rattle.run_laws.specs.Clean.{written}

-- of the parts from this place on, one that is kept names the path
abbrev pub names_from : (ℕ → Bool) → ℕ → List Part → Path → Bool
names_from keep place [] path = false
names_from keep place (part ∷ parts) path = (keep place && is_among part.inputs path) || names_from keep (place + 1) parts path

-- this one, or what is there
abbrev pub or_bytes : Option (List ℕ) → Option (List ℕ) → Option (List ℕ)
or_bytes (Some bytes) below = Some bytes
or_bytes None below = below

-- what the last of the kept outcomes from this place on wrote at the path, and what was there before if none did
abbrev pub last_written : (ℕ → Bool) → ℕ → List Outcome → Path → Option (List ℕ) → Option (List ℕ)
last_written keep place [] path below = below
last_written keep place (o ∷ outcomes) path below = last_written keep (place + 1) outcomes path (if keep place then or_bytes (file_at (written o) path) below else below)

-- the kept parts from this place on, renumbered
abbrev pub parts_from : (ℕ → Bool) → ℕ → List Part → List Part
parts_from keep place [] = []
parts_from keep place (part ∷ parts) = if keep place then renumbered keep part ∷ parts_from keep (place + 1) parts else parts_from keep (place + 1) parts
