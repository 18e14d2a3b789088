-- What a call for the packages that stay answers.
use Rattle.std.specs.Prelude.{◌≡◌, ℕ, Bool, not, List, Option, Some, None, Result, Ok, Err, find}
use Rattle.std.specs.List.{list_any}
use Rattle.rel_path.specs.Paths.{Path, name_eq}
use Rattle.workspaces.specs.declared.member.Package.{Package}
use Rattle.repository.specs.Reading.{Contents}
use Rattle.kept_packages.specs.declared.error.KeptErr.{KeptErr}
use Rattle.kept_packages.specs.declared.error.KeptErr.TheVariants.{NoPackage, OutOfMemory}
use Rattle.kept_packages.specs.Kept.{IsKept, kept_places}

-- no package has the name
abbrev pub is_unknown : List Package → List ℕ → Bool
is_unknown packages name = not (list_any (λ p. name_eq p.name name) packages)

-- the first name that no package has
abbrev pub first_unknown : Contents → List (List ℕ) → Option (List ℕ)
first_unknown contents targets = find (is_unknown contents.space.packages) targets

-- they are the numbers of the owners that stay
abbrev pub AreKept : Contents → List (List ℕ) → List ℕ → Type 0
AreKept contents targets kept = (set : Path → Bool) × IsKept contents targets set × (kept ≡ kept_places contents set)

-- the owners that stay, or the first name that no package has; want of memory may come at any time
abbrev pub Keeps : Contents → List (List ℕ) → Result (List ℕ) KeptErr → Type 0
Keeps contents targets (Ok kept) = (first_unknown contents targets ≡ None) × AreKept contents targets kept
Keeps contents targets (Err (NoPackage name)) = first_unknown contents targets ≡ Some name
Keeps contents targets (Err OutOfMemory) = Unit {0}
