-- What the exclusions of folders do in a list of globs.
use Rattle.std.specs.Prelude.{◌≡◌, ℕ, Bool, true, false, not, ◌&&◌, List, ◌++◌, map, None}
use Rattle.std.specs.List.{list_any, AllByRecursion}
use Rattle.rel_path.specs.Paths.{Path}
use Rattle.globs.specs.Match.{matches}
use Rattle.globs.specs.Lists.{is_excluded, glob_in, fault_in, list_fault, list_takes}
use Rattle.folder_globs.specs.Exclusions.{exclusion, lies_below, AreTexts, IsFolder}

-- ---- one folder

-- The exclusion has no fault and excludes. Its glob matches each path below the folder, and of the paths that are texts no other.
pub record Excludes (folder : Path) : Type 0 where
  pub readable : fault_in (exclusion folder) ≡ None
  pub excludes : is_excluded (exclusion folder) ≡ true
  pub below : (path : Path) → lies_below path folder ≡ true → matches (glob_in (exclusion folder)) path ≡ true
  pub only : (path : Path) → AreTexts path → matches (glob_in (exclusion folder)) path ≡ lies_below path folder

abbrev pub ExclusionLaw : Type 0
ExclusionLaw = (folder : Path) → IsFolder folder → Excludes folder

-- ---- the exclusions of folders behind a list

-- the list, and the exclusion of each folder behind it
abbrev pub without : List (List ℕ) → List Path → List (List ℕ)
without globs folders = globs ++ map exclusion folders

-- the path lies below one of the folders
abbrev pub lies_below_any : Path → List Path → Bool
lies_below_any path folders = list_any (λ folder. lies_below path folder) folders

-- The exclusions bring no fault. What the list takes with them it takes without them, and it lies below none of the folders; of the paths that are texts it takes all of these.
pub record ListExcludes (globs : List (List ℕ)) (folders : List Path) : Type 0 where
  pub fault : list_fault 0 (without globs folders) ≡ list_fault 0 globs
  pub taken : (path : Path) → list_takes (without globs folders) path ≡ true → (list_takes globs path ≡ true) × (lies_below_any path folders ≡ false)
  pub exactly : (path : Path) → AreTexts path → list_takes (without globs folders) path ≡ (list_takes globs path && not (lies_below_any path folders))

abbrev pub ListLaw : Type 0
ListLaw = (globs : List (List ℕ)) (folders : List Path) → AllByRecursion IsFolder folders → ListExcludes globs folders
