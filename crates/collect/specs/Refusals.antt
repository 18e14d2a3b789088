-- What collecting a listing answers.
use Rattle.std.specs.Prelude.{◌≡◌, ◌<◌, ◌≤◌, ℕ, Bool, false, List, ◌++◌, length, Option, Some, None, Result, Ok, Err, find, sum_by, nat_lt, take}
use Rattle.std.specs.List.{AllByRecursion, slice_get}
use Rattle.serde_json.specs.Data.{Data}
use Rattle.rel_path.specs.Paths.{Path}
use Rattle.rel_path.specs.Files.{FileMap}
use Rattle.rel_path.specs.Limits.{file_limit, sum_limit}
use Rattle.npm_lock.specs.declared.error.ExtErr.TheVariants.{Missing as missing_name}
use Rattle.npm_lock.specs.Externals.{Externals}
use Rattle.workspaces.specs.declared.member.Package.{Package}
use Rattle.workspaces.specs.Space.{Space, owners, owner_named}
use Rattle.task_definitions.specs.Setup.{Setup}
use Rattle.listing.specs.declared.part.Listing.{Listing}
use Rattle.task_inputs.specs.Ignores.{rule_files}
use Rattle.collect.specs.declared.wanted.Wanted.{Wanted}
use Rattle.collect.specs.declared.error.CollectErr.{CollectErr}
use Rattle.collect.specs.declared.error.CollectErr.TheVariants.{Missing, TooLarge, TooMuch, Failed, OutOfMemory}
use Rattle.collect.specs.Parts.{starts_of, Uses}
use Rattle.collect.specs.Listings.{needed, with_bytes, IsListing}

-- ---- refusals

-- each name that the owner of the task has to find is found
pub record FindsAll (space : Space) (lock : Option Data) (wanted : Wanted) : Type 0 where
  pub member : Package
  pub stands : owner_named space wanted.id.«package» ≡ Some member
  pub pairs : List (List ℕ × List ℕ)
  pub uses : Uses space lock member pairs

-- a name that the owner has to find, and does not; the least of several
pub record IsMissingOf (space : Space) (lock : Option Data) (member : Package) (from name : List ℕ) : Type 0 where
  pub lockfile : Data
  pub there : lock ≡ Some lockfile
  pub missing : Externals lockfile (starts_of space member) (Err (missing_name from name))

-- of the owners of the wanted tasks, in order, one is the first that misses a name
pub record IsFirstMissing (space : Space) (lock : Option Data) (all : List Wanted) (from name : List ℕ) : Type 0 where
  pub place : ℕ
  pub wanted : Wanted
  pub stands : slice_get all place ≡ Some wanted
  pub found : AllByRecursion (FindsAll space lock) (take place all)
  pub member : Package
  pub is_its : owner_named space wanted.id.«package» ≡ Some member
  pub misses : IsMissingOf space lock member from name

abbrev pub is_large : Option (List ℕ) → Bool
is_large None = false
is_large (Some bytes) = nat_lt file_limit (length bytes)

-- the first of these files that is over the limit
abbrev pub first_large : FileMap → List Path → Option Path
first_large files paths = find (λ path. is_large (files path)) paths

-- the least ignore file that counts and is over the limit, or else the least such input
unfoldable pub large_file : Setup → Space → FileMap → List Path → List Wanted → Option Path
large_file setup space files walk wanted = first_large files (rule_files setup (owners space) walk ++ needed setup space files walk wanted)

-- the bytes of all input files together
unfoldable pub total_bytes : Setup → Space → FileMap → List Path → List Wanted → ℕ
total_bytes setup space files walk wanted = sum_by (λ file. length file.1) (with_bytes files (needed setup space files walk wanted))

-- ---- the answer

pub record Fits (setup : Setup) (space : Space) (lock : Option Data) (files : FileMap) (walk : List Path) (wanted : List Wanted) : Type 0 where
  pub found : AllByRecursion (FindsAll space lock) wanted
  pub small : large_file setup space files walk wanted ≡ None

-- the listing, or the first refusal in order
abbrev pub Collects : Setup → Space → Option Data → FileMap → List Path → List (List ℕ × List ℕ) → List Wanted → Result Listing CollectErr → Type 0
Collects setup space lock files walk env wanted (Ok listing) = IsListing setup space lock files walk env wanted listing × (Fits setup space lock files walk wanted × (total_bytes setup space files walk wanted ≤ sum_limit))
Collects setup space lock files walk env wanted (Err (Missing from name)) = IsFirstMissing space lock wanted from name
Collects setup space lock files walk env wanted (Err (TooLarge path)) = AllByRecursion (FindsAll space lock) wanted × (large_file setup space files walk wanted ≡ Some path)
Collects setup space lock files walk env wanted (Err (TooMuch bytes)) = Fits setup space lock files walk wanted × ((total_bytes setup space files walk wanted ≡ bytes) × (sum_limit < bytes))
Collects setup space lock files walk env wanted (Err Failed) = Unit {0}
Collects setup space lock files walk env wanted (Err OutOfMemory) = Unit {0}
