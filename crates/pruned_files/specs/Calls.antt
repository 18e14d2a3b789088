-- What the calls of this crate answer.
use Rattle.std.specs.Prelude.{◌≡◌, ◌||◌, ℕ, Bool, true, false, if◌then◌else◌, List, [], ◌∷◌, ◌++◌, map, filter, Option, Some, Result, Ok, Err}
use Rattle.std.specs.List.{AllByRecursion, HoldsAt, filter_map, slice_get}
use Rattle.rel_path.specs.Paths.{Path, path_eq}
use Rattle.serde_json.specs.Data.{Data}
use Rattle.workspaces.specs.declared.member.Package.{Package}
use Rattle.workspaces.specs.Lists.{passes_at}
use Rattle.workspaces.specs.Space.{Space, owners}
use Rattle.task_inputs.specs.Homes.{home_of}
use Rattle.task_inputs.specs.Rooted.{ArePicked}
use Rattle.collect.specs.Listings.{ArePaired}
use Rattle.collect.specs.Parts.{Uses}
use Rattle.collect.specs.Refusals.{IsMissingOf}
use Rattle.collect.specs.Steps.{UsesAt, FindsAt}
use Rattle.repository.specs.Reading.{Contents}
use Rattle.kept_packages.specs.Kept.{kept_places}
use Rattle.pruned_files.specs.declared.by_name.Side.{Side}
use Rattle.pruned_files.specs.declared.by_name.Side.TheVariants.{BeforeRoot, Root, BehindRoot}
use Rattle.pruned_files.specs.declared.error.CutErr.{CutErr}
use Rattle.pruned_files.specs.declared.error.CutErr.TheVariants.{Missing, OutOfMemory}
use Rattle.pruned_files.specs.declared.places.Known.{Known}
use Rattle.pruned_files.specs.Cut.{kept_owners, locations_in, IsCutTo, IsCutLock, Writes}
use Rattle.pruned_files.specs.Folders.{AreFoldersOf, AreAbove}
use Rattle.pruned_files.specs.Lacks.{is_before_root, IsFirstMissing}
use Rattle.pruned_files.specs.Layers.{is_manifest_layer}
use Rattle.pruned_files.specs.Pruned.{IsPrunedPath, lock_path, is_root_file, is_ignore_above, is_own_file}

-- ---- the public calls, for each set of folders whose owners these numbers are

-- the paths of the files that stay
abbrev pub ArePruned : Contents → List ℕ → List Path → Type 0
ArePruned contents kept paths = (set : Path → Bool) → kept ≡ kept_places contents set → ArePicked (IsPrunedPath contents set) contents.walk paths

-- those of the paths that an installation needs
abbrev pub IsLayer : Contents → List ℕ → List Path → List Path → Type 0
IsLayer contents kept paths layer = (set : Path → Bool) → kept ≡ kept_places contents set → layer ≡ filter (is_manifest_layer (kept_owners contents.space set)) paths

-- the text of the cut lockfile, or the first name that an owner misses; want of memory may come at any time
abbrev pub CutsFor : Contents → (Path → Bool) → Result (Option (List ℕ)) CutErr → Type 0
CutsFor contents set (Ok text) = (value : Option Data) × IsCutLock contents set contents.lock value text
CutsFor contents set (Err (Missing from name)) = IsFirstMissing contents set from name
CutsFor contents set (Err OutOfMemory) = Unit {0}

abbrev pub CutsLock : Contents → List ℕ → Result (Option (List ℕ)) CutErr → Type 0
CutsLock contents kept result = (set : Path → Bool) → kept ≡ kept_places contents set → CutsFor contents set result

-- ---- owners by their numbers

abbrev pub owners_at : Space → List ℕ → List Package
owners_at space numbers = filter_map (slice_get (owners space)) numbers

-- ---- files

-- the file stays for its place, where these owners stay
abbrev pub settles : Contents → List Package → Path → Bool
settles contents kept path = is_root_file path || (is_ignore_above kept path || is_own_file contents.setup (owners contents.space) kept path)

-- what is known of the folders, where these owners stay
pub record Knows (contents : Contents) (kept : List Package) (known : Known) : Type 0 where
  pub folders : AreFoldersOf kept known.kept
  pub above : AreAbove kept known.above
  pub all : AreFoldersOf contents.space.packages known.packages
  pub homes : known.declared ≡ map (home_of contents.setup) (owners contents.space)

-- the path stands first in the list
abbrev pub is_first : List Path → Path → Bool
is_first [] path = false
is_first (first ∷ rest) path = path_eq first path

-- the list without the path, if that stands first
abbrev pub behind : List Path → Path → List Path
behind [] path = []
behind (first ∷ rest) path = if path_eq first path then rest else first ∷ rest

-- ---- owners in the order of their names

abbrev pub side_of : Bool → Bool → Side
side_of true true = BeforeRoot
side_of true false = BehindRoot
side_of false before = Root

-- where the owner of this number stands among the owners
abbrev pub side_at : Space → ℕ → Side
side_at space number = side_of (passes_at (λ p. true) space.packages number) (passes_at is_before_root space.packages number)

abbrev pub is_side : Side → Side → Bool
is_side BeforeRoot BeforeRoot = true
is_side BeforeRoot Root = false
is_side BeforeRoot BehindRoot = false
is_side Root BeforeRoot = false
is_side Root Root = true
is_side Root BehindRoot = false
is_side BehindRoot BeforeRoot = false
is_side BehindRoot Root = false
is_side BehindRoot BehindRoot = true

abbrev pub on_side : Space → Side → List ℕ → List ℕ
on_side space side numbers = filter (λ number. is_side (side_at space number) side) numbers

abbrev pub by_name : Space → List ℕ → List ℕ
by_name space numbers = on_side space BeforeRoot numbers ++ (on_side space Root numbers ++ on_side space BehindRoot numbers)

-- ---- what the owners use

-- what one owner uses
abbrev pub CutsOne : Space → Data → Package → Result (List (List ℕ × List ℕ)) CutErr → Type 0
CutsOne space lock p (Ok pairs) = Uses space (Some lock) p pairs
CutsOne space lock p (Err (Missing from name)) = IsMissingOf space (Some lock) p from name
CutsOne space lock p (Err OutOfMemory) = Unit {0}

-- each owner's, one after another
pub record AreLocations (space : Space) (lock : Data) (numbers : List ℕ) (keep : List (List ℕ)) : Type 0 where
  pub uses : List (List (List ℕ × List ℕ))
  pub each : ArePaired (UsesAt space (Some lock)) numbers uses
  pub are : keep ≡ locations_in uses

-- one is the first that misses a name
pub record MissesAt (space : Space) (lock : Data) (numbers : List ℕ) (from name : List ℕ) : Type 0 where
  pub earlier : List ℕ
  pub number : ℕ
  pub later : List ℕ
  pub stands : numbers ≡ earlier ++ number ∷ later
  pub found : AllByRecursion (FindsAt space (Some lock)) earlier
  pub misses : HoldsAt (λ p. IsMissingOf space (Some lock) p from name) (owners space) number

abbrev pub Locates : Space → Data → List ℕ → Result (List (List ℕ)) CutErr → Type 0
Locates space lock numbers (Ok keep) = AreLocations space lock numbers keep
Locates space lock numbers (Err (Missing from name)) = MissesAt space lock numbers from name
Locates space lock numbers (Err OutOfMemory) = Unit {0}

-- the text of a lockfile that is cut to some owners
abbrev pub CutsText : Contents → Data → (Path → Bool) → Result (List ℕ) CutErr → Type 0
CutsText contents lock set (Ok text) = (value : Data) × IsCutTo contents set lock value × Writes value text
CutsText contents lock set (Err (Missing from name)) = contents.lock ≡ Some lock → IsFirstMissing contents set from name
CutsText contents lock set (Err OutOfMemory) = Unit {0}

abbrev pub OnlyMemory : {T : Type 0} → Result T CutErr → Type 0
OnlyMemory (Ok _) = Unit {0}
OnlyMemory (Err e) = e ≡ OutOfMemory

-- ---- all that stay

-- the file stays where these owners do, and the test tells what is asked for from anywhere
abbrev pub stays : Contents → List Package → (Path → Bool) → Path → Bool
stays contents kept rooted path = path_eq path lock_path || (settles contents kept path || rooted path)
