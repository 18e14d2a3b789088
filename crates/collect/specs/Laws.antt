-- What holds of the listing of some tasks, whatever files it was made of.
use Rattle.std.specs.Prelude.{◌≡◌, ◌≢◌, ◌<◌, ℕ, true, List, [], map, Option, AllPairs, slice_index_or}
use Rattle.std.specs.List.{AllByRecursion}
use Rattle.std.specs.List.Sorted.{IsStrictlySortedBy}
use Rattle.serde_json.specs.Data.{Data}
use Rattle.rel_path.specs.Paths.{Path, path_cmp, is_among}
use Rattle.rel_path.specs.Files.{FileMap, file_at}
use Rattle.tree_walk.specs.Walked.{is_open}
use Rattle.spawn_dev.specs.Orders.{IsAscending}
use Rattle.workspaces.specs.Space.{Space, AreWalked}
use Rattle.task_definitions.specs.Setup.{Setup}
use Rattle.listing.specs.declared.part.Listing.{Listing}
use Rattle.run_laws.specs.Closures.{names}
use Rattle.run_laws.specs.Valid.{IsOrdered}
use Rattle.run_laws.specs.Plans.{AreApart}
use Rattle.folder_globs.specs.Exclusions.{IsFolder}
use Rattle.task_inputs.specs.Homes.{LieApart}
use Rattle.collect.specs.declared.wanted.Wanted.{Wanted}
use Rattle.collect.specs.Listings.{IsListing}

-- The walked paths ascend, and none lies below a folder that no walk enters. The packages lie apart and below the root, in
-- folders whose names are texts, with walked manifests. The wanted tasks differ, and each depends on earlier ones, whose
-- places ascend.
pub record CanBeListed (space : Space) (walk : List Path) (wanted : List Wanted) : Type 0 where
  pub ascend : IsStrictlySortedBy path_cmp walk
  pub outside : (path : Path) → is_among walk path ≡ true → is_open path ≡ true
  pub apart : LieApart space.packages
  pub below_root : AllByRecursion (λ p. p.folder ≢ []) space.packages
  pub folders : AllByRecursion (λ p. IsFolder p.folder) space.packages
  pub walked : AreWalked walk space.packages
  pub ids : AllPairs (λ v w. v.id ≢ w.id) wanted
  pub lower : (place : ℕ) → AllByRecursion (λ d. d < place) (slice_index_or (map (λ w. w.deps) wanted) place [])
  pub deps : AllByRecursion (λ w. IsAscending (λ a b. a < b) w.deps) wanted

-- each input stands among the files of the listing, with the bytes that it has in these files
abbrev pub HoldsInputs : FileMap → Listing → Type 0
HoldsInputs files listing = (path : Path) → names listing.parts path ≡ true → files path ≡ file_at listing.files path

-- in order, its tasks out of each other's way, and with the bytes of its inputs
pub record IsSound (files : FileMap) (listing : Listing) : Type 0 where
  pub ordered : IsOrdered listing
  pub apart : AreApart listing
  pub inputs : HoldsInputs files listing

-- the listing of tasks that can be listed is sound
abbrev pub ListingLaw : Type 0
ListingLaw = (setup : Setup) (space : Space) (lock : Option Data) (files : FileMap) (walk : List Path) (env : List (List ℕ × List ℕ)) (wanted : List Wanted) (listing : Listing) → CanBeListed space walk wanted
    → IsListing setup space lock files walk env wanted listing → IsSound files listing
