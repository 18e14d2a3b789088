-- Why an order to prune is refused.
use Rattle.std.specs.Prelude.{◌≡◌, ◌⊎◌, ℕ, Bool, List, Some, None, Ok, Err}
use Rattle.rel_path.specs.Paths.{Path}
use Rattle.rel_path.specs.Files.{FileMap}
use Rattle.refusals.specs.declared.refusal.Refusal.{Refusal}
use Rattle.refusals.specs.declared.refusal.Refusal.TheVariants.{NoPackage, OutTaken, LockMissing, TooLarge}
use Rattle.repository.specs.Reading.{Contents, Means}
use Rattle.kept_packages.specs.Kept.{IsKept}
use Rattle.kept_packages.specs.Answers.{first_unknown}
use Rattle.pruned_files.specs.Pruned.{Pruning, IsPruning}
use Rattle.pruned_files.specs.Lacks.{IsFirstMissing}
use Rattle.prune.specs.Answers.{CanBegin}
use Rattle.prune.specs.Folders.{first_below_out, first_over}

-- the first name that no package has
pub record IsUnknown (contents : Contents) (targets : List (List ℕ)) (reason : Refusal) : Type 0 where
  pub name : List ℕ
  pub first : first_unknown contents targets ≡ Some name
  pub is : reason ≡ NoPackage name

-- the least walked file below `out`
pub record IsTaken (contents : Contents) (targets : List (List ℕ)) (reason : Refusal) : Type 0 where
  pub names : first_unknown contents targets ≡ None
  pub path : Path
  pub first : first_below_out contents.walk ≡ Some path
  pub is : reason ≡ OutTaken path

-- a name that the lockfile lacks for a package that stays
pub record IsLacking (contents : Contents) (targets : List (List ℕ)) (reason : Refusal) : Type 0 where
  pub begins : CanBegin contents targets
  pub set : Path → Bool
  pub kept : IsKept contents targets set
  pub from : List ℕ
  pub name : List ℕ
  pub first : IsFirstMissing contents set from name
  pub is : reason ≡ LockMissing from name

-- a file that is to be copied and is over the limit
pub record IsOver (contents : Contents) (targets : List (List ℕ)) (files : FileMap) (reason : Refusal) : Type 0 where
  pub begins : CanBegin contents targets
  pub pruning : Pruning
  pub are : IsPruning contents targets pruning
  pub path : Path
  pub first : first_over files pruning.paths ≡ Some path
  pub is : reason ≡ TooLarge path

-- Why a repository is not pruned. At most one of these holds, and it is the first in this order.
abbrev pub IsRefusedIn : Contents → List (List ℕ) → FileMap → Refusal → Type 0
IsRefusedIn contents targets files reason =
    IsUnknown contents targets reason
    ⊎ (IsTaken contents targets reason
    ⊎ (IsLacking contents targets reason
    ⊎ IsOver contents targets files reason))

-- the files make no repository, or one that is not pruned
abbrev pub IsRefusedPrune : List (List ℕ) → FileMap → Refusal → Type 0
IsRefusedPrune targets files reason =
    Means files (Err reason)
    ⊎ ((contents : Contents) × Means files (Ok contents) × IsRefusedIn contents targets files reason)
