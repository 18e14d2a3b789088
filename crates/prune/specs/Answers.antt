-- What pruning leaves of the files, and why it is refused.
use Rattle.std.specs.Prelude.{◌≡◌, ℕ, Bool, List, Some, None, Result, Ok, Err}
use Rattle.rel_path.specs.Paths.{Path}
use Rattle.rel_path.specs.Files.{FileMap}
use Rattle.repository.specs.Reading.{Contents}
use Rattle.kept_packages.specs.Kept.{IsKept}
use Rattle.kept_packages.specs.Answers.{first_unknown}
use Rattle.pruned_files.specs.Lacks.{IsFirstMissing}
use Rattle.pruned_files.specs.Pruned.{Pruning, IsPruning}
use Rattle.prune.specs.declared.error.PruneErr.{PruneErr}
use Rattle.prune.specs.declared.error.PruneErr.TheVariants.{NoPackage, OutTaken, Missing, TooLarge, TreeFailed, SinkFailed, OutOfMemory}
use Rattle.prune.specs.Folders.{first_below_out, written, written_before, first_over}

-- ---- what is tried first

-- each name is that of a package, and no walked file lies below `out`
pub record CanBegin (contents : Contents) (targets : List (List ℕ)) : Type 0 where
  pub names : first_unknown contents targets ≡ None
  pub free : first_below_out contents.walk ≡ None

-- ---- what is left

-- all files of the pruned repository were written, and no other file is another one
pub record Prunes (docker : Bool) (contents : Contents) (targets : List (List ℕ)) (old new : FileMap) : Type 0 where
  pub begins : CanBegin contents targets
  pub pruning : Pruning
  pub is : IsPruning contents targets pruning
  pub small : first_over old pruning.paths ≡ None
  pub files : (path : Path) → new path ≡ written docker contents pruning old path

-- a file is over the limit, and those in front of it were written
pub record StopsAtLarge (docker : Bool) (contents : Contents) (targets : List (List ℕ)) (old new : FileMap) (path : Path) : Type 0 where
  pub begins : CanBegin contents targets
  pub pruning : Pruning
  pub is : IsPruning contents targets pruning
  pub large : first_over old pruning.paths ≡ Some path
  pub files : (other : Path) → new other ≡ written_before docker pruning path old other

-- what is left of the files; after a fault of the tree or want of memory nothing is said of those below `out`
abbrev pub Leaves : Bool → Contents → List (List ℕ) → FileMap → FileMap → Result (Unit {0}) PruneErr → Type 0
Leaves docker contents targets old new (Ok _) = Prunes docker contents targets old new
Leaves docker contents targets old new (Err (NoPackage name)) = (new ≡ old) × (first_unknown contents targets ≡ Some name)
Leaves docker contents targets old new (Err (OutTaken path)) = (new ≡ old) × ((first_unknown contents targets ≡ None) × (first_below_out contents.walk ≡ Some path))
Leaves docker contents targets old new (Err (Missing from name)) =
    (new ≡ old) × (CanBegin contents targets × ((set : Path → Bool) × IsKept contents targets set × IsFirstMissing contents set from name))
Leaves docker contents targets old new (Err (TooLarge path)) = StopsAtLarge docker contents targets old new path
Leaves docker contents targets old new (Err TreeFailed) = Unit {0}
Leaves docker contents targets old new (Err SinkFailed) = Prunes docker contents targets old new
Leaves docker contents targets old new (Err OutOfMemory) = Unit {0}
