-- What an order to prune leaves that came to its end or was refused.
use Rattle.std.specs.Prelude.{◌≡◌, ◌⊎◌, ℕ, Bool, false, List, ◌++◌, Ok}
use Rattle.rel_path.specs.Paths.{Path}
use Rattle.rel_path.specs.Files.{FileMap}
use Rattle.workspaces.specs.Space.{lies_below}
use Rattle.refusals.specs.declared.refusal.Refusal.{Refusal}
use Rattle.refusals.specs.declared.refusal.Refusal.TheVariants.{TooLarge}
use Rattle.repository.specs.Reading.{Contents, Means}
use Rattle.prune.specs.Answers.{Prunes, StopsAtLarge}
use Rattle.prune.specs.Folders.{out_folder}
use Rattle.prune.specs.Printed.{IsAddedText}

-- the files of the pruned repository of these were written, and a line for each package that stays was printed
pub record PrunedAll (docker : Bool) (targets : List (List ℕ)) (Heard : Type 0)
    (old new : FileMap) (before after : List ℕ) (status : ℕ) : Type 0 where
  pub contents : Contents
  pub means : Means old (Ok contents)
  pub prunes : Prunes docker contents targets old new
  pub page_is : Heard → (text : List ℕ) × IsAddedText contents targets text × (after ≡ before ++ text)
  pub status_is : status ≡ 0

-- every path that is not below `out` is as before
abbrev pub SameOutside : FileMap → FileMap → Type 0
SameOutside old new = (path : Path) → lies_below path out_folder ≡ false → new path ≡ old path

-- a file of the repository that was to be copied is over the limit, and those in front of it were written
pub record StoppedAt (docker : Bool) (targets : List (List ℕ)) (old new : FileMap) (path : Path) : Type 0 where
  pub contents : Contents
  pub means : Means old (Ok contents)
  pub stops : StopsAtLarge docker contents targets old new path

-- what a refusal leaves of the files: all as they were, but where one of them is too large
abbrev pub LeavesRefused : Bool → List (List ℕ) → FileMap → FileMap → Refusal → Type 0
LeavesRefused docker targets old new reason =
    (new ≡ old) ⊎ ((path : Path) × (reason ≡ TooLarge path) × StoppedAt docker targets old new path)
