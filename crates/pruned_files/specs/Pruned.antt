-- The files of a repository that is made of a part of another one, and what they say (Turborepo docs, "prune"; which files are copied beside those of the packages is this project's own rule).
use Rattle.std.specs.Prelude.{◌≡◌, ◌⊎◌, ◌&&◌, ◌||◌, ℕ, Bool, true, not, List, [], ◌∷◌, Option, None, is_some, filter, codes, if◌then◌else◌}
use Rattle.std.specs.List.{list_any}
use Rattle.rel_path.specs.Paths.{Path, path_eq, name_eq, is_among, strip}
use Rattle.rel_path.specs.Files.{FileMap}
use Rattle.serde_json.specs.Data.{Data}
use Rattle.workspaces.specs.declared.member.Package.{Package}
use Rattle.workspaces.specs.Space.{Space, owners, manifest_name}
use Rattle.turbo_config.specs.declared.files.PackageConfig.{PackageConfig}
use Rattle.task_definitions.specs.Setup.{Setup, each_once}
use Rattle.task_inputs.specs.Homes.{is_home, is_declared}
use Rattle.task_inputs.specs.Ignores.{ignore_name, is_ignore_file}
use Rattle.task_inputs.specs.Rooted.{IsRooted, ArePicked}
use Rattle.collect.specs.Steps.{folder_of}
use Rattle.repository.specs.Steps.{at_root}
use Rattle.repository.specs.Reading.{Contents, lock_name, config_name, script_names}
use Rattle.kept_packages.specs.Kept.{IsKept, kept_places}
use Rattle.pruned_files.specs.Cut.{kept_owners, IsCutLock}

-- ---- which files are copied

abbrev pub npmrc_name : List ℕ
npmrc_name = codes ".npmrc"

-- the root's `package.json`, `turbo.json`, `.npmrc` and `.gitignore`
abbrev pub is_root_file : Path → Bool
is_root_file path = list_any (λ name. path_eq path (at_root name)) (manifest_name ∷ config_name ∷ npmrc_name ∷ ignore_name ∷ [])

-- the ignore file of a folder in which the folder of one of the owners lies
abbrev pub is_ignore_above : List Package → Path → Bool
is_ignore_above kept path = is_ignore_file path && list_any (λ p. is_some (strip (folder_of path) p.folder)) kept

-- a file of one of the owners that no configured task of the owner declares
abbrev pub is_own_file : Setup → List Package → List Package → Path → Bool
is_own_file setup owners kept path = list_any (λ p. is_home owners p path) kept && not (is_declared setup owners path)

-- a file that stays for its place
abbrev pub is_settled : Contents → (Path → Bool) → Path → Bool
is_settled contents set path =
    is_root_file path
    || (is_ignore_above (kept_owners contents.space set) path
    || is_own_file contents.setup (owners contents.space) (kept_owners contents.space set) path)

-- the root's lockfile, in the place of which its cut form stands
abbrev pub lock_path : Path
lock_path = at_root lock_name

-- a file stays: the lockfile, one that stays for its place, and what tasks of the owners get from anywhere
abbrev pub IsPrunedPath : Contents → (Path → Bool) → Path → Type 0
IsPrunedPath contents set path =
    (path_eq path lock_path ≡ true)
    ⊎ ((is_settled contents set path ≡ true)
    ⊎ IsRooted contents.setup (owners contents.space) (kept_places contents set) path)

-- ---- the files

-- files as they stand, and the lockfile by its new text
abbrev pub pruned_at : List Path → Option (List ℕ) → FileMap → FileMap
pruned_at paths text files path = if is_among paths path then (if path_eq path lock_path then text else files path) else None

-- the folders of the owners that stay, the paths of their files, the cut lockfile and its text
pub record Pruning : Type 0 where
  pub set : Path → Bool
  pub paths : List Path
  pub lock : Option Data
  pub text : Option (List ℕ)

pub record IsPruning (contents : Contents) (targets : List (List ℕ)) (p : Pruning) : Type 0 where
  pub kept : IsKept contents targets p.set
  pub picked : ArePicked (IsPrunedPath contents p.set) contents.walk p.paths
  pub cut : IsCutLock contents p.set contents.lock p.lock p.text

-- the files that a pruning leaves of these
abbrev pub pruned_files : Pruning → FileMap → FileMap
pruned_files p files = pruned_at p.paths p.text files

-- ---- what they say

-- the packages whose folders are in the set
abbrev pub kept_packages : Space → (Path → Bool) → List Package
kept_packages space set = filter (λ p. set p.folder) space.packages

-- some package of the name stays
abbrev pub stays_by_name : Space → (Path → Bool) → List ℕ × PackageConfig → Bool
stays_by_name space set own = list_any (λ p. name_eq p.name own.0) (kept_packages space set)

-- the same packages' files and scripts alone
abbrev pub pruned_setup : Setup → Space → (Path → Bool) → Setup
pruned_setup setup space set = record {
  globals = setup.globals;
  root = setup.root;
  packages = filter (stays_by_name space set) setup.packages;
  scripts = each_once [] (script_names (kept_packages space set));
}

-- the repository that the pruned files make
abbrev pub pruned_contents : Contents → Pruning → Contents
pruned_contents contents p = record {
  walk = p.paths;
  space = record { root = contents.space.root; packages = kept_packages contents.space p.set };
  setup = pruned_setup contents.setup contents.space p.set;
  lock = p.lock;
}
