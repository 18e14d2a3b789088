-- What the steps of a pruning answer.
use Rattle.std.specs.Prelude.{◌≡◌, ◌≢◌, ℕ, Bool, true, false, List, [], ◌++◌, filter, Option, Some, None, Result, Ok, Err, IfErr, if◌then◌else◌, take}
use Rattle.std.specs.List.{AllByRecursion, filter_map, slice_get}
use Rattle.std.specs.List.Sorted.{IsStrictlySortedBy}
use Rattle.serde_json.specs.Data.{Data}
use Rattle.rel_path.specs.Paths.{Path, path_eq, path_cmp}
use Rattle.rel_path.specs.Files.{FileMap, over}
use Rattle.tree_dev.specs.declared.error.DevErr.{DevErr}
use Rattle.tree_dev.specs.declared.error.DevErr.TheVariants as device
use Rattle.workspaces.specs.declared.member.Package.{Package}
use Rattle.workspaces.specs.Space.{Space, lies_below}
use Rattle.repository.specs.Reading.{Contents}
use Rattle.kept_packages.specs.Answers.{first_unknown, AreKept}
use Rattle.kept_packages.specs.Kept.{IsKept, kept_places}
use Rattle.pruned_files.specs.Calls.{ArePruned, IsLayer}
use Rattle.pruned_files.specs.Cut.{kept_owners, IsCutLock}
use Rattle.pruned_files.specs.Lacks.{IsFirstMissing}
use Rattle.pruned_files.specs.Layers.{is_manifest_layer}
use Rattle.pruned_files.specs.Pruned.{Pruning, IsPruning, pruned_at, lock_path}
use Rattle.prune.specs.declared.error.PruneErr.{PruneErr}
use Rattle.prune.specs.declared.error.PruneErr.TheVariants.{NoPackage, OutTaken, Missing, TooLarge, TreeFailed, SinkFailed, OutOfMemory}
use Rattle.prune.specs.declared.planning.Plan.{Plan}
use Rattle.prune.specs.Answers.{CanBegin}
use Rattle.prune.specs.Folders.{out_folder, json_folder, folder_of_all, first_below_out, moved_to, before, first_over}

abbrev pub OnlyMemory : {T : Type 0} → Result T PruneErr → Type 0
OnlyMemory result = IfErr result (λ e. e ≡ OutOfMemory)

abbrev pub tree_error : DevErr → PruneErr
tree_error device.Failed = TreeFailed
tree_error device.OutOfMemory = OutOfMemory

-- ---- what is to be written

-- no package has the first name, or memory is wanting
abbrev pub HasNoName : Contents → List (List ℕ) → PruneErr → Type 0
HasNoName contents targets (NoPackage name) = first_unknown contents targets ≡ Some name
HasNoName contents targets (OutTaken path) = ⊥
HasNoName contents targets (Missing from name) = ⊥
HasNoName contents targets (TooLarge path) = ⊥
HasNoName contents targets TreeFailed = ⊥
HasNoName contents targets SinkFailed = ⊥
HasNoName contents targets OutOfMemory = Unit {0}

abbrev pub KeepsFor : Contents → List (List ℕ) → Result (List ℕ) PruneErr → Type 0
KeepsFor contents targets (Ok kept) = (first_unknown contents targets ≡ None) × AreKept contents targets kept
KeepsFor contents targets (Err e) = HasNoName contents targets e

abbrev pub IsTaken : Path → PruneErr → Type 0
IsTaken path (NoPackage name) = ⊥
IsTaken path (OutTaken taken) = taken ≡ path
IsTaken path (Missing from name) = ⊥
IsTaken path (TooLarge large) = ⊥
IsTaken path TreeFailed = ⊥
IsTaken path SinkFailed = ⊥
IsTaken path OutOfMemory = Unit {0}

-- an owner that stays misses a name, or memory is wanting
abbrev pub Lacks : Contents → (Path → Bool) → PruneErr → Type 0
Lacks contents set (NoPackage name) = ⊥
Lacks contents set (OutTaken path) = ⊥
Lacks contents set (Missing from name) = IsFirstMissing contents set from name
Lacks contents set (TooLarge path) = ⊥
Lacks contents set TreeFailed = ⊥
Lacks contents set SinkFailed = ⊥
Lacks contents set OutOfMemory = Unit {0}

-- the same for each set of folders whose owners these numbers are
abbrev pub LacksFor : Contents → List ℕ → PruneErr → Type 0
LacksFor contents kept e = (set : Path → Bool) → kept ≡ kept_places contents set → Lacks contents set e

abbrev pub IsTextFor : Contents → List ℕ → Option (List ℕ) → Type 0
IsTextFor contents kept text = (set : Path → Bool) → kept ≡ kept_places contents set → (value : Option Data) × IsCutLock contents set contents.lock value text

abbrev pub GivesText : Contents → List ℕ → Result (Option (List ℕ)) PruneErr → Type 0
GivesText contents kept (Ok text) = IsTextFor contents kept text
GivesText contents kept (Err e) = LacksFor contents kept e

-- what is to be written where the owners of these numbers stay
pub record IsPlanOf (contents : Contents) (kept : List ℕ) (plan : Plan) : Type 0 where
  pub kept_is : plan.kept ≡ kept
  pub paths : ArePruned contents kept plan.paths
  pub layer : IsLayer contents kept plan.paths plan.layer
  pub text : IsTextFor contents kept plan.text

abbrev pub PlansOf : Contents → List ℕ → Result Plan PruneErr → Type 0
PlansOf contents kept (Ok plan) = IsPlanOf contents kept plan
PlansOf contents kept (Err e) = LacksFor contents kept e

-- what is to be written for the packages of these names
pub record IsPlan (contents : Contents) (targets : List (List ℕ)) (plan : Plan) : Type 0 where
  pub begins : CanBegin contents targets
  pub pruning : Pruning
  pub is : IsPruning contents targets pruning
  pub kept : plan.kept ≡ kept_places contents pruning.set
  pub paths : plan.paths ≡ pruning.paths
  pub layer : plan.layer ≡ filter (is_manifest_layer (kept_owners contents.space pruning.set)) plan.paths
  pub text : plan.text ≡ pruning.text

-- why nothing is to be written
abbrev pub Refuses : Contents → List (List ℕ) → PruneErr → Type 0
Refuses contents targets (NoPackage name) = first_unknown contents targets ≡ Some name
Refuses contents targets (OutTaken path) = (first_unknown contents targets ≡ None) × (first_below_out contents.walk ≡ Some path)
Refuses contents targets (Missing from name) = CanBegin contents targets × ((set : Path → Bool) × IsKept contents targets set × IsFirstMissing contents set from name)
Refuses contents targets (TooLarge path) = ⊥
Refuses contents targets TreeFailed = ⊥
Refuses contents targets SinkFailed = ⊥
Refuses contents targets OutOfMemory = Unit {0}

abbrev pub Plans : Contents → List (List ℕ) → Result Plan PruneErr → Type 0
Plans contents targets (Ok plan) = IsPlan contents targets plan
Plans contents targets (Err e) = Refuses contents targets e

-- ---- copying

-- a path that is not the root folder, and does not lie below `out`
pub record IsOutside (path : Path) : Type 0 where
  pub inner : path ≢ []
  pub outside : lies_below path out_folder ≡ false

-- `out`, or a folder in it
abbrev pub IsOut : Path → Type 0
IsOut folder = (rest : Path) × (folder ≡ out_folder ++ rest)

abbrev pub IsTooLarge : Path → PruneErr → Type 0
IsTooLarge path (NoPackage name) = ⊥
IsTooLarge path (OutTaken taken) = ⊥
IsTooLarge path (Missing from name) = ⊥
IsTooLarge path (TooLarge large) = large ≡ path
IsTooLarge path TreeFailed = ⊥
IsTooLarge path SinkFailed = ⊥
IsTooLarge path OutOfMemory = Unit {0}

-- the tree failed, or memory is wanting
abbrev pub IsFault : PruneErr → Type 0
IsFault (NoPackage name) = ⊥
IsFault (OutTaken path) = ⊥
IsFault (Missing from name) = ⊥
IsFault (TooLarge path) = ⊥
IsFault TreeFailed = Unit {0}
IsFault SinkFailed = ⊥
IsFault OutOfMemory = Unit {0}

-- a fault, or what is said where this file is over the limit
abbrev pub IsFaultOr : (Path → Type 0) → PruneErr → Type 0
IsFaultOr Large (NoPackage name) = ⊥
IsFaultOr Large (OutTaken path) = ⊥
IsFaultOr Large (Missing from name) = ⊥
IsFaultOr Large (TooLarge path) = Large path
IsFaultOr Large TreeFailed = Unit {0}
IsFaultOr Large SinkFailed = ⊥
IsFaultOr Large OutOfMemory = Unit {0}

-- what is copied from a path
abbrev pub source : Option (List ℕ) → FileMap → Path → Option (List ℕ)
source text files path = if path_eq path lock_path then text else files path

-- the files with these bytes at the path, if there are any
abbrev pub put_at : Path → Option (List ℕ) → FileMap → FileMap
put_at target None files other = files other
put_at target (Some bytes) files other = if path_eq other target then Some bytes else files other

abbrev pub IsSame : FileMap → FileMap → Type 0
IsSame new old = (path : Path) → new path ≡ old path

-- the bytes were put at the path
abbrev pub Writes : Path → List ℕ → FileMap → FileMap → Result (Unit {0}) PruneErr → Type 0
Writes target bytes old new (Ok _) = IsSame new (put_at target (Some bytes) old)
Writes target bytes old new (Err e) = IsFault e

-- these bytes, if there are any, were put at the path below the folder, unless the file is too large
abbrev pub Copies : Path → Path → Bool → Option (List ℕ) → FileMap → FileMap → Result (Unit {0}) PruneErr → Type 0
Copies folder path large bytes old new (Ok _) = (large ≡ false) × IsSame new (put_at (folder ++ path) bytes old)
Copies folder path large bytes old new (Err e) = IsFaultOr (λ stop. (stop ≡ path) × ((large ≡ true) × (new ≡ old))) e

-- the files at these paths, and the lockfile's text, below the folder
abbrev pub copied : Option (List ℕ) → Path → List Path → FileMap → FileMap
copied text folder paths files = over files (moved_to folder (pruned_at paths text files))

-- those in front of a path
abbrev pub copied_before : Option (List ℕ) → Path → List Path → Path → FileMap → FileMap
copied_before text folder paths stop files = over files (moved_to folder (before stop (pruned_at paths text files)))

-- all were copied, or those in front of the first that is over the limit
abbrev pub CopiesAll : Option (List ℕ) → Path → List Path → FileMap → FileMap → Result (Unit {0}) PruneErr → Type 0
CopiesAll text folder paths old new (Ok _) = (first_over old paths ≡ None) × IsSame new (copied text folder paths old)
CopiesAll text folder paths old new (Err e) = IsFaultOr (λ large. (first_over old paths ≡ Some large) × IsSame new (copied_before text folder paths large old)) e

abbrev pub SameElsewhere : FileMap → FileMap → Type 0
SameElsewhere old new = (path : Path) → lies_below path out_folder ≡ false → new path ≡ old path

-- ---- a plan, written

pub record CanBeWritten (paths : List Path) : Type 0 where
  pub ascend : IsStrictlySortedBy path_cmp paths
  pub outside : AllByRecursion IsOutside paths

-- some of these
abbrev pub IsPart : List Path → List Path → Type 0
IsPart part paths = (test : Path → Bool) × (part ≡ filter test paths)

-- all files of a plan, and for containers its layer
abbrev pub plan_files : Bool → Plan → FileMap → FileMap
plan_files false plan files = copied plan.text out_folder plan.paths files
plan_files true plan files = over (copied plan.text (folder_of_all true) plan.paths files) (moved_to json_folder (pruned_at plan.layer plan.text files))

abbrev pub WritesPlan : Bool → Plan → FileMap → FileMap → Result (Unit {0}) PruneErr → Type 0
WritesPlan docker plan old new (Ok _) = (first_over old plan.paths ≡ None) × IsSame new (plan_files docker plan old)
WritesPlan docker plan old new (Err e) = IsFaultOr (λ large. (first_over old plan.paths ≡ Some large) × IsSame new (copied_before plan.text (folder_of_all docker) plan.paths large old)) e

-- ---- what is printed

-- the packages of these numbers
abbrev pub packages_at : Space → List ℕ → List Package
packages_at space numbers = filter_map (slice_get space.packages) numbers

-- the output failed, or memory was wanting
abbrev pub IsPutFault : Result (Unit {0}) PruneErr → Type 0
IsPutFault (Ok _) = Unit {0}
IsPutFault (Err (NoPackage name)) = ⊥
IsPutFault (Err (OutTaken path)) = ⊥
IsPutFault (Err (Missing from name)) = ⊥
IsPutFault (Err (TooLarge path)) = ⊥
IsPutFault (Err TreeFailed) = ⊥
IsPutFault (Err SinkFailed) = Unit {0}
IsPutFault (Err OutOfMemory) = Unit {0}

-- all of the text; where the output failed, some first part of it; where memory was wanting, none
abbrev pub PutsText : List ℕ → List ℕ → List ℕ → Result (Unit {0}) PruneErr → Type 0
PutsText text old new (Ok _) = new ≡ old ++ text
PutsText text old new (Err (NoPackage name)) = ⊥
PutsText text old new (Err (OutTaken path)) = ⊥
PutsText text old new (Err (Missing from name)) = ⊥
PutsText text old new (Err (TooLarge path)) = ⊥
PutsText text old new (Err TreeFailed) = ⊥
PutsText text old new (Err SinkFailed) = (count : ℕ) × (new ≡ old ++ take count text)
PutsText text old new (Err OutOfMemory) = new ≡ old
