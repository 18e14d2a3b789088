-- The packages of a workspace, as its root manifest, the walked files and their bytes say (npm docs, "workspaces").
use Rattle.std.specs.Prelude.{ℕ, ◌≡◌, ◌≢◌, ◌==◌, ◌<◌, ◌&&◌, ◌⊎◌, Bool, true, false, not, if◌then◌else◌, List, [], ◌∷◌, ◌++◌, length, Option, Some, None, Result, Ok, Err, MatchResult, AllPairs, map, filter, unwrap_or, bytes_eq, codes}
use Rattle.std.specs.Option.{option_map}
use Rattle.std.specs.List.{AllByRecursion, HoldsAt, filter_map, find, list_any}
use Rattle.std.specs.List.Sorted.{IsStrictlySortedBy}
use Rattle.rel_path.specs.Paths.{Path, name_eq, name_cmp, path_cmp, strip, is_among}
use Rattle.rel_path.specs.Files.{FileMap}
use Rattle.rel_path.specs.Limits.{file_limit}
use Rattle.tree_dev.specs.declared.tree.Found.{Found}
use Rattle.tree_dev.specs.declared.tree.Found.TheVariants.{Absent, TooLong, Here}
use Rattle.tree_dev.specs.Tree.{within}
use Rattle.globs.specs.Lists.{list_takes_whole}
use Rattle.manifest.specs.declared.manifest.Manifest.{Manifest}
use Rattle.manifest.specs.declared.error.ManifestErr.{ManifestErr}
use Rattle.manifest.specs.Manifest.{manifest_of}
use Rattle.workspaces.specs.declared.member.Package.{Package}
use Rattle.workspaces.specs.declared.error.SpaceErr.{SpaceErr}
use Rattle.workspaces.specs.declared.error.SpaceErr.TheVariants.{TooLarge, Manifest as BadManifest, Inside, NameTwice, OutOfMemory, Failed}
use Rattle.workspaces.specs.Lists.{ascending}
use Rattle.workspaces.specs.Order.{package_cmp}
use Rattle.workspaces.specs.Entries.{globs_of, globs_fault}

-- the root manifest, and the packages ascending by name
pub record Space : Type 0 where
  pub root : Manifest
  pub packages : List Package

-- ---- who may have tasks: each package and, behind them, the root

abbrev pub root_name : List ℕ
root_name = codes "//"

-- the root as a package, with the root folder and the root manifest
abbrev pub root_package : Manifest → Package
root_package root = record { name = root_name; folder = []; manifest = root }

-- the packages keep their numbers, and the root's is how many there are
abbrev pub owners : Space → List Package
owners space = space.packages ++ root_package space.root ∷ []

-- the first owner of the name
unfoldable pub owner_named : Space → List ℕ → Option Package
owner_named space name = find (λ p. name_eq p.name name) (owners space)

-- the owner of this number is the one that the name means
abbrev pub IsOwnerAt : Space → List ℕ → ℕ → Type 0
IsOwnerAt space name o = (o < length (owners space)) × HoldsAt (λ p. owner_named space name ≡ Some p) (owners space) o

-- ---- the folders that are packages

abbrev pub manifest_name : List ℕ
manifest_name = codes "package.json"

abbrev pub manifest_in : Path → Path
manifest_in folder = folder ++ manifest_name ∷ []

-- the folder of a path that ends in `package.json`
abbrev pub folder_of : Path → Option Path
folder_of [] = None
folder_of (name ∷ []) = if bytes_eq name manifest_name then Some [] else None
folder_of (name ∷ next ∷ rest) = option_map (λ folder. name ∷ folder) (folder_of (next ∷ rest))

-- a folder other than the root that the globs take whole
abbrev pub is_taken : List (List ℕ) → Path → Bool
is_taken globs folder = not (length folder == 0) && list_takes_whole globs folder

-- the folders with a walked `package.json` that the globs take
unfoldable pub folders_in : List (List ℕ) → List Path → List Path
folders_in globs walk = ascending path_cmp (filter (is_taken globs) (filter_map folder_of walk))

-- ---- their manifests

abbrev pub package_of : Path → Manifest → Package
package_of folder manifest = record { name = unwrap_or manifest.name []; folder = folder; manifest = manifest }

abbrev pub package_from : Path → Result Manifest ManifestErr → Result (Option Package) SpaceErr
package_from folder (Ok manifest) = Ok (Some (package_of folder manifest))
package_from folder (Err fault) = Err (BadManifest (manifest_in folder) fault)

-- the package in a folder, by what is found at its manifest; where nothing is there, there is none
abbrev pub package_at : Path → Found → Result (Option Package) SpaceErr
package_at folder Absent = Ok None
package_at folder TooLong = Err (TooLarge (manifest_in folder))
package_at folder (Here bytes) = package_from folder (manifest_of false bytes)

abbrev pub and_more : Result (Option Package) SpaceErr → Result (List Package) SpaceErr → Result (List Package) SpaceErr
and_more (Err fault) more = Err fault
and_more (Ok None) more = more
and_more (Ok (Some member)) (Err fault) = Err fault
and_more (Ok (Some member)) (Ok packages) = Ok (member ∷ packages)

-- the packages in these folders, or the first fault
unfoldable pub packages_at : FileMap → List Path → Result (List Package) SpaceErr
packages_at files [] = Ok []
packages_at files (folder ∷ folders) = and_more (package_at folder (within file_limit (files (manifest_in folder)))) (packages_at files folders)

-- each package's manifest is one of the files
abbrev pub AreWalked : List Path → List Package → Type 0
AreWalked walk packages = AllByRecursion (λ p. is_among walk (manifest_in p.folder) ≡ true) packages

-- ---- what they may not be to one another

abbrev pub is_proper : Option Path → Bool
is_proper None = false
is_proper (Some []) = false
is_proper (Some (name ∷ names)) = true

-- a proper extension of the folder
abbrev pub lies_below : Path → Path → Bool
lies_below path folder = is_proper (strip folder path)

abbrev pub is_root_folder : Path → Bool
is_root_folder folder = length folder == 0

-- the path lies below one of the folders that is not the root's
abbrev pub lies_in_some : List Path → Path → Bool
lies_in_some folders path = list_any (λ f. not (is_root_folder f) && lies_below path f) folders

-- of these folders this one is the path's home: the path lies below it and, where it is the root's, below no other one
unfoldable pub is_home_of : List Path → Path → Path → Bool
is_home_of folders folder path = lies_below path folder && not (is_root_folder folder && lies_in_some folders path)

-- of neighbours in folder order, the first of which the second lies inside the first: the least package folder below another, and that one
unfoldable pub inside_fault : List Package → Option SpaceErr
inside_fault [] = None
inside_fault (p ∷ []) = None
inside_fault (p ∷ q ∷ packages) = if lies_below q.folder p.folder then Some (Inside p.folder q.folder) else inside_fault (q ∷ packages)

-- of neighbours in the order by name and then by folder, the first of one name: the least name that two packages have, and the first two folders that have it
unfoldable pub twice_fault : List Package → Option SpaceErr
twice_fault [] = None
twice_fault (p ∷ []) = None
twice_fault (p ∷ q ∷ packages) = if bytes_eq p.name q.name then Some (NameTwice p.name p.folder q.folder) else twice_fault (q ∷ packages)

-- ---- all of it

abbrev pub or_then : Option SpaceErr → Option SpaceErr → Option SpaceErr
or_then None later = later
or_then (Some fault) later = Some fault

abbrev pub unless : {A : Type 0} → Option SpaceErr → Result A SpaceErr → Result A SpaceErr
unless None result = result
unless (Some fault) result = Err fault

-- what packages in folder order may not be to one another
abbrev pub checks_fault : List Package → Option SpaceErr
checks_fault packages = or_then (inside_fault packages) (twice_fault (ascending package_cmp packages))

abbrev pub space_from : Manifest → Result (List Package) SpaceErr → Result Space SpaceErr
space_from root (Err fault) = Err fault
space_from root (Ok packages) = unless (checks_fault packages) (Ok (record { root = root; packages = ascending package_cmp packages }))

-- the packages of the workspace, or why there are none
unfoldable pub space_of : FileMap → List Path → Manifest → Result Space SpaceErr
space_of files walk root = unless (globs_fault root) (space_from root (packages_at files (folders_in (globs_of root) walk)))

-- found as it is meant; want of memory may come at any time, and where a file could not be read nothing is found
abbrev pub Discovers : {A : Type 0} → Result A SpaceErr → Result A SpaceErr → Type 0
Discovers meant result = MatchResult result (λ a. meant ≡ Ok a) (λ e. (e ≡ OutOfMemory) ⊎ ((e ≡ Failed) ⊎ (meant ≡ Err e)))

-- ---- what holds of every workspace

-- neither folder is the other, nor lies in it
abbrev pub AreApart : Path → Path → Type 0
AreApart first second = (strip first second ≡ None) × (strip second first ≡ None)

-- names ascend, each once; no package's folder is the root, that of another package, or a folder in that
pub record IsProper (space : Space) : Type 0 where
  pub names : IsStrictlySortedBy name_cmp (map (λ member. member.name) space.packages)
  pub below_root : AllByRecursion (λ member. member.folder ≢ []) space.packages
  pub apart : AllPairs (λ p q. AreApart p.folder q.folder) space.packages
