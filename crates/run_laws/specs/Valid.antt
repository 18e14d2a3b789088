-- When a listing is valid.
use Rattle.std.specs.Prelude.{◌≡◌, ◌<◌, true, IsSome}
use Rattle.std.specs.List.{AllByRecursion}
use Rattle.rel_path.specs.Paths.{Path}
use Rattle.rel_path.specs.Files.{file_at}
use Rattle.listing.specs.KeyText.{IsAtHome, Fits}
use Rattle.listing.specs.declared.part.Part.{Part}
use Rattle.listing.specs.declared.part.Listing.{Listing}
use Rattle.spawn_dev.specs.Orders.{IsAscending, IsBefore, AscendByPath}
use Rattle.run_laws.specs.Ancestors.{IsLower}
use Rattle.run_laws.specs.Closures.{names}

pub record IsOrderedPart (part : Part) : Type 0 where
  -- the output set has the part's folder
  pub home : IsAtHome part
  pub inputs : IsAscending IsBefore part.inputs
  pub deps : IsAscending (λ a b. a < b) part.deps

-- The files ascend and are exactly those that the parts name; dependencies stand at lower places and ascend.
pub record IsOrdered (l : Listing) : Type 0 where
  pub ascend : AscendByPath l.files
  pub named : AllByRecursion (λ f. names l.parts f.0 ≡ true) l.files
  pub present : (path : Path) → names l.parts path ≡ true → IsSome (file_at l.files path)
  pub lower : IsLower l
  pub parts : AllByRecursion IsOrderedPart l.parts

-- Besides, each text and list has fewer than 2^32 bytes or members, so that the key text tells the listing.
pub record IsValid (l : Listing) : Type 0 where
  pub ordered : IsOrdered l
  pub fits : Fits l
