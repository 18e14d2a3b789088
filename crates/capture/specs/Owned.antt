-- The files that a task owns, taken out and put in.
use Rattle.std.specs.Prelude.{◌≡◌, ◌≢◌, ℕ, Bool, true, false, not, ◌&&◌, ◌||◌, List, [], ◌∷◌, ◌++◌, map, length, Option, Some, None, if◌then◌else◌, Result, Ok, Err, nat_lt}
use Rattle.std.specs.List.Sorted.{IsStrictlySortedBy}
use Rattle.rel_path.specs.Paths.{Path, path_cmp, path_eq, is_among}
use Rattle.rel_path.specs.Files.{FileMap, file_at, has, only_at}
use Rattle.cache_api.specs.Artifacts.{File}
use Rattle.cache_api.specs.declared.artifact.Artifact.{Artifact}
use Rattle.globs.specs.OwnedFiles.{owned}
use Rattle.globs.specs.declared.out_set.OutSet.{OutSet}
use Rattle.globs.specs.Outputs.{takes, shares}
use Rattle.tree_walk.specs.Walked.{is_skipped}
use Rattle.capture.specs.declared.error.CapErr.{CapErr}
use Rattle.capture.specs.declared.error.CapErr.TheVariants.{Shared, TooLarge, Failed, OutOfMemory}
use Rattle.std.specs.declared.cmp.Ordering.TheVariants.{Less}
use Rattle.tree_dev.specs.declared.tree.Found.{Found}
use Rattle.tree_dev.specs.declared.tree.Found.TheVariants.{Absent, TooLong, Here}
use Rattle.tree_walk.specs.Traversal.{Choice, Entering}

-- none of these paths may change at any time
abbrev pub NoneHeld : (Path → Bool) → (Path → Bool) → Type 0
NoneHeld these held = (path : Path) → these path ≡ true → held path ≡ false

-- all folders of the package but those, directly in its folder, that no task may declare
abbrev pub package_enters : OutSet → Entering
package_enters outs folder name = not (path_eq folder outs.folder && is_skipped name)

abbrev pub own_choice : OutSet → Choice
own_choice outs = record { enters = package_enters outs; wants = takes outs }

abbrev pub declared_choice : OutSet → Choice
declared_choice outs =
    record { enters = package_enters outs; wants = λ path. takes outs path || shares outs path }

-- owned paths in order; where the files are told, those that are there
pub record ListsOwned (Tells : Type 0) (files : FileMap) (outs : OutSet) (paths : List Path)
    : Type 0 where
  pub ascend : IsStrictlySortedBy path_cmp paths
  pub taken : (path : Path) → is_among paths path ≡ true → takes outs path ≡ true
  pub exact : Tells → (path : Path) → is_among paths path ≡ (has files path && takes outs path)

abbrev pub paths_of : List File → List Path
paths_of files = map (λ f. f.0) files

-- no longer than the limit
abbrev pub fits : ℕ → Option (List ℕ) → Bool
fits limit None = true
fits limit (Some bytes) = not (nat_lt limit (length bytes))

pub record ReadOk (files : FileMap) (limit : ℕ) (paths : List Path) (got : List File) : Type 0 where
  pub read : (path : Path) → file_at got path ≡ only_at paths files path
  pub fit : (path : Path) → is_among paths path ≡ true → fits limit (files path) ≡ true

pub record ReadTooLarge (files : FileMap) (limit : ℕ) (paths : List Path) (large : Path)
    : Type 0 where
  pub there : is_among paths large ≡ true
  pub long : fits limit (files large) ≡ false
  pub least : (path : Path) → is_among paths path ≡ true → path_cmp path large ≡ Less
      → fits limit (files path) ≡ true

abbrev pub ReadsAll : FileMap → ℕ → List Path → Result (List File) CapErr → Type 0
ReadsAll files limit paths (Ok read) = ReadOk files limit paths read
ReadsAll files limit paths (Err (Shared path)) = ⊥
ReadsAll files limit paths (Err (TooLarge path)) = ReadTooLarge files limit paths path
ReadsAll files limit paths (Err Failed) = Unit {0}
ReadsAll files limit paths (Err OutOfMemory) = Unit {0}

abbrev pub IsTooLarge : Path → CapErr → Type 0
IsTooLarge path (Shared other) = ⊥
IsTooLarge path (TooLarge other) = other ≡ path
IsTooLarge path Failed = ⊥
IsTooLarge path OutOfMemory = Unit {0}

-- what was found at the path was added
abbrev pub AddsFound : Path → Found → List File → List File → Result (Unit {0}) CapErr → Type 0
AddsFound path Absent old new (Ok _) = new ≡ old
AddsFound path Absent old new (Err e) = e ≡ OutOfMemory
AddsFound path TooLong old new (Ok _) = ⊥
AddsFound path TooLong old new (Err e) = IsTooLarge path e
AddsFound path (Here bytes) old new (Ok _) = new ≡ old ++ (path, bytes) ∷ []
AddsFound path (Here bytes) old new (Err e) = e ≡ OutOfMemory

abbrev pub IsShared : Path → CapErr → Type 0
IsShared path (Shared other) = other ≡ path
IsShared path (TooLarge other) = ⊥
IsShared path Failed = ⊥
IsShared path OutOfMemory = Unit {0}

abbrev pub declares : OutSet → Path → Bool
declares outs path = takes outs path || shares outs path

pub record ListsDeclared (Tells : Type 0) (files : FileMap) (outs : OutSet) (paths : List Path)
    : Type 0 where
  pub ascend : IsStrictlySortedBy path_cmp paths
  pub taken : (path : Path) → is_among paths path ≡ true → declares outs path ≡ true
  pub exact : Tells → (path : Path) → is_among paths path ≡ (has files path && declares outs path)

abbrev pub first_shared : OutSet → List Path → Option Path
first_shared outs [] = None
first_shared outs (path ∷ paths) = if shares outs path then Some path else first_shared outs paths

-- no file is shared
abbrev pub SharesNone : FileMap → OutSet → Type 0
SharesNone files outs = (path : Path) → has files path ≡ true → shares outs path ≡ false

pub record TakesAll (files : FileMap) (outs : OutSet) (limit : ℕ) (taken : List File) : Type 0 where
  pub alone : SharesNone files outs
  pub taken_is : (path : Path) → file_at taken path ≡ owned outs files path
  pub fit : (path : Path) → takes outs path ≡ true → fits limit (files path) ≡ true

pub record SharesFirst (files : FileMap) (outs : OutSet) (path : Path) : Type 0 where
  pub there : has files path ≡ true
  pub is_shared : shares outs path ≡ true
  pub least : (other : Path) → has files other ≡ true → path_cmp other path ≡ Less
      → shares outs other ≡ false

pub record LargeFirst (files : FileMap) (outs : OutSet) (limit : ℕ) (path : Path) : Type 0 where
  pub alone : SharesNone files outs
  pub owns : takes outs path ≡ true
  pub long : fits limit (files path) ≡ false
  pub least : (other : Path) → takes outs other ≡ true → path_cmp other path ≡ Less
      → fits limit (files other) ≡ true

-- what taking the owned files answers
abbrev pub TakesFiles : FileMap → OutSet → ℕ → Result (List File) CapErr → Type 0
TakesFiles files outs limit (Ok taken) = TakesAll files outs limit taken
TakesFiles files outs limit (Err (Shared path)) = SharesFirst files outs path
TakesFiles files outs limit (Err (TooLarge path)) = LargeFirst files outs limit path
TakesFiles files outs limit (Err Failed) = Unit {0}
TakesFiles files outs limit (Err OutOfMemory) = Unit {0}

-- the same, with the files in an artifact
abbrev pub Takes : FileMap → OutSet → ℕ → Result Artifact CapErr → Type 0
Takes files outs limit (Ok artifact) = TakesAll files outs limit artifact.files
Takes files outs limit (Err (Shared path)) = SharesFirst files outs path
Takes files outs limit (Err (TooLarge path)) = LargeFirst files outs limit path
Takes files outs limit (Err Failed) = Unit {0}
Takes files outs limit (Err OutOfMemory) = Unit {0}

-- no path is the root folder
abbrev pub AreBelow : List File → Type 0
AreBelow files = (path : Path) → is_among (paths_of files) path ≡ true → path ≢ []
