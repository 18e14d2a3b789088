-- The repository that files make (npm docs, "package.json", "package-lock.json" and "workspaces"; Turborepo docs, "Configuring turbo.json"). What is
-- tried comes in this order: the root manifest, the lockfile, the walk, the workspace, the root's turbo.json and those of the packages in folder order.
use Rattle.std.specs.Prelude.{◌≡◌, ℕ, true, ◌++◌, List, [], ◌∷◌, Option, Some, None, Result, Ok, Err, map, codes}
use Rattle.std.specs.Option.{option_map}
use Rattle.std.specs.List.{flat_map}
use Rattle.std.specs.declared.cmp.Ordering.{Ordering}
use Rattle.serde_json.specs.Data.{Data}
use Rattle.serde_json.specs.View.{view}
use Rattle.rel_path.specs.Paths.{Path, path_cmp}
use Rattle.rel_path.specs.Files.{FileMap}
use Rattle.tree_dev.specs.declared.tree.Found.{Found}
use Rattle.tree_dev.specs.declared.tree.Found.TheVariants.{Absent, TooLong, Here}
use Rattle.tree_dev.specs.Tree.{within}
use Rattle.manifest.specs.declared.manifest.Manifest.{Manifest}
use Rattle.manifest.specs.declared.error.ManifestErr.{ManifestErr}
use Rattle.manifest.specs.Manifest.{manifest_of}
use Rattle.lock_entries.specs.declared.error.LockErr.{LockErr}
use Rattle.npm_lock.specs.Reading.{lock_of}
use Rattle.tree_walk.specs.declared.error.WalkErr.{WalkErr}
use Rattle.tree_walk.specs.Walked.{Walks}
use Rattle.workspaces.specs.declared.member.Package.{Package}
use Rattle.workspaces.specs.declared.error.SpaceErr.{SpaceErr}
use Rattle.workspaces.specs.Lists.{ascending}
use Rattle.workspaces.specs.Space.{Space, space_of, manifest_name}
use Rattle.rel_path.specs.Limits.{file_limit}
use Rattle.turbo_config.specs.declared.files.PackageConfig.{PackageConfig}
use Rattle.turbo_config.specs.declared.error.ConfigErr.{ConfigErr}
use Rattle.turbo_config.specs.RootFile.{RootFile}
use Rattle.turbo_config.specs.Files.{root_of, package_of}
use Rattle.task_definitions.specs.Setup.{Setup, setup_of}
use Rattle.refusals.specs.declared.refusal.Refusal.{Refusal}
use Rattle.refusals.specs.declared.refusal.Refusal.TheVariants as refusal
use Rattle.repository.specs.declared.repository.Repository.{Repository}
use Rattle.repository.specs.Steps.{After, IsRefusal, at_root, walk_refusal, space_refusal, config_refusal}

-- ---- what is read

-- the walked files in order, the workspace, what its turbo.json files say, and the lockfile's value, if there is one
pub record Contents : Type 0 where
  pub walk : List Path
  pub space : Space
  pub setup : Setup
  pub lock : Option Data

abbrev pub contents_of : Repository → Contents
contents_of r = record { walk = r.walk; space = r.packages; setup = r.config; lock = option_map view r.lock }

-- ---- the root manifest

abbrev pub manifest_from : Result Manifest ManifestErr → Result Manifest Refusal
manifest_from (Ok manifest) = Ok manifest
manifest_from (Err fault) = Err (refusal.Manifest (at_root manifest_name) fault)

abbrev pub root_from : Found → Result Manifest Refusal
root_from Absent = Err refusal.NoManifest
root_from TooLong = Err (refusal.TooLarge (at_root manifest_name))
root_from (Here bytes) = manifest_from (manifest_of true bytes)

unfoldable pub root_manifest : FileMap → Result Manifest Refusal
root_manifest files = root_from (within file_limit (files (at_root manifest_name)))

-- ---- the lockfile

abbrev pub lock_name : List ℕ
lock_name = codes "package-lock.json"

abbrev pub data_from : Result Data LockErr → Result (Option Data) Refusal
data_from (Ok value) = Ok (Some value)
data_from (Err fault) = Err (refusal.Lock fault)

-- a repository may have none
abbrev pub lock_from : Found → Result (Option Data) Refusal
lock_from Absent = Ok None
lock_from TooLong = Err (refusal.TooLarge (at_root lock_name))
lock_from (Here bytes) = data_from (lock_of bytes)

unfoldable pub lockfile : FileMap → Result (Option Data) Refusal
lockfile files = lock_from (within file_limit (files (at_root lock_name)))

-- ---- turbo.json files

abbrev pub config_name : List ℕ
config_name = codes "turbo.json"

abbrev pub config_in : Path → Path
config_in folder = folder ++ config_name ∷ []

abbrev pub config_from : {A : Type 0} → Path → Result A ConfigErr → Result (Option A) Refusal
config_from path (Ok file) = Ok (Some file)
config_from path (Err fault) = Err (config_refusal path fault)

-- a turbo.json by what is found at its path; there may be none
abbrev pub config_at : {A : Type 0} → (List ℕ → Result A ConfigErr) → Path → Found → Result (Option A) Refusal
config_at read path Absent = Ok None
config_at read path TooLong = Err (refusal.TooLarge path)
config_at read path (Here bytes) = config_from path (read bytes)

-- the root's
unfoldable pub root_config : FileMap → Result (Option RootFile) Refusal
root_config files = config_at root_of (config_in []) (within file_limit (files (config_in [])))

-- that of the package in a folder
unfoldable pub package_config : FileMap → Path → Result (Option PackageConfig) Refusal
package_config files folder = config_at package_of (config_in folder) (within file_limit (files (config_in folder)))

abbrev pub and_more : List ℕ → Result (Option PackageConfig) Refusal → Result (List (List ℕ × PackageConfig)) Refusal → Result (List (List ℕ × PackageConfig)) Refusal
and_more name (Err reason) more = Err reason
and_more name (Ok None) more = more
and_more name (Ok (Some file)) (Err reason) = Err reason
and_more name (Ok (Some file)) (Ok files) = Ok ((name, file) ∷ files)

-- those of the packages with these folders and names, each with the name, or the first refusal
unfoldable pub package_configs : FileMap → List (Path × List ℕ) → Result (List (List ℕ × PackageConfig)) Refusal
package_configs files [] = Ok []
package_configs files (home ∷ homes) = and_more home.1 (package_config files home.0) (package_configs files homes)

abbrev pub folder_cmp : Package → Package → Ordering
folder_cmp p q = path_cmp p.folder q.folder

-- packages in the order of their folders
abbrev pub by_folder : List Package → List Package
by_folder packages = ascending folder_cmp packages

-- their folders and names
abbrev pub homes_of : List Package → List (Path × List ℕ)
homes_of packages = map (λ p. (p.folder, p.name)) (by_folder packages)

-- without the root's turbo.json those of packages are not read
abbrev pub own_configs : FileMap → List Package → Option RootFile → Result (List (List ℕ × PackageConfig)) Refusal
own_configs files packages None = Ok []
own_configs files packages (Some root) = package_configs files (homes_of packages)

-- the names of the scripts of all packages
abbrev pub script_names : List Package → List (List ℕ)
script_names packages = flat_map (λ p. map (λ script. script.0) p.manifest.scripts) packages

abbrev pub setup_with : List (List ℕ) → Option RootFile → Result (List (List ℕ × PackageConfig)) Refusal → Result Setup Refusal
setup_with scripts root (Err reason) = Err reason
setup_with scripts root (Ok own) = Ok (setup_of root own scripts)

abbrev pub setup_from : FileMap → List Package → Result (Option RootFile) Refusal → Result Setup Refusal
setup_from files packages (Err reason) = Err reason
setup_from files packages (Ok root) = setup_with (script_names packages) root (own_configs files packages root)

-- what the root's turbo.json and those of the packages in folder order say
unfoldable pub setup_in : FileMap → List Package → Result Setup Refusal
setup_in files packages = setup_from files packages (root_config files)

-- ---- all of it

abbrev pub AfterWalkOf : {B : Type 0} → Result (List Path) WalkErr → (List Path → Result B Refusal → Type 0) → Result B Refusal → Type 0
AfterWalkOf (Ok walk) next answer = next walk answer
AfterWalkOf (Err fault) next answer = IsRefusal (walk_refusal fault) answer

-- after the walk over the files
abbrev pub AfterWalk : {B : Type 0} → FileMap → (List Path → Result B Refusal → Type 0) → Result B Refusal → Type 0
AfterWalk files next answer = (walked : Result (List Path) WalkErr) × Walks (Unit {0}) files walked × AfterWalkOf walked next answer

abbrev pub AfterSpace : {B : Type 0} → Result Space SpaceErr → (Space → Result B Refusal → Type 0) → Result B Refusal → Type 0
AfterSpace (Ok space) next answer = next space answer
AfterSpace (Err fault) next answer = IsRefusal (space_refusal fault) answer

-- the repository that the files make, or the first reason why they make none
abbrev pub Means : FileMap → Result Contents Refusal → Type 0
Means files answer =
    After (root_manifest files) (λ root.
    After (lockfile files) (λ lock.
    AfterWalk files (λ walk.
    AfterSpace (space_of files walk root) (λ space.
    After (setup_in files space.packages) (λ setup end.
    end ≡ Ok (record { walk = walk; space = space; setup = setup; lock = lock })))))) answer
