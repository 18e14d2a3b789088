-- Whose a file is, and which configured tasks declare it (Turborepo docs, "Configuring turbo.json", `outputs`; that a file has one home, whose tasks alone may declare it, is this project's own rule). Owners are the packages and, behind them, the root.
use Rattle.std.specs.Prelude.{◌≡◌, ℕ, Bool, not, ◌&&◌, List, Option, None, AllPairs, map, filter}
use Rattle.std.specs.List.{list_any, filter_map}
use Rattle.std.specs.Option.{option_map}
use Rattle.rel_path.specs.Paths.{Path, name_eq, strip}
use Rattle.globs.specs.Outputs.{declares}
use Rattle.workspaces.specs.declared.member.Package.{Package}
use Rattle.workspaces.specs.Space.{is_home_of}
use Rattle.task_definitions.specs.Setup.{Setup, task_def}

-- no package's folder is that of another, or lies in it
abbrev pub LieApart : List Package → Type 0
LieApart packages = AllPairs (λ p q. (strip p.folder q.folder ≡ None) × (strip q.folder p.folder ≡ None)) packages

-- the owner is the path's home: the package whose folder the path lies below, or the root, where it lies below that of none
abbrev pub is_home : List Package → Package → Path → Bool
is_home owners p path = is_home_of (map (λ q. q.folder) owners) p.folder path

-- ---- configured tasks

-- a task by its name, and its outputs
pub record Configured : Type 0 where
  pub task : List ℕ
  pub outputs : List (List ℕ)

abbrev pub configured_by : Setup → List ℕ → List ℕ × List ℕ → Option Configured
configured_by setup name script = option_map (λ def. record { task = script.0; outputs = def.outputs }) (task_def setup name script.0)

-- of the scripts of an owner of this name, those that have a definition
unfoldable pub configured_in : Setup → List ℕ → List (List ℕ × List ℕ) → List Configured
configured_in setup name scripts = filter_map (configured_by setup name) scripts

-- the configured tasks of an owner: its scripts that have a definition
abbrev pub configured : Setup → Package → List Configured
configured setup p = configured_in setup p.name p.manifest.scripts

-- a folder, and the configured tasks of its owner
pub record Home : Type 0 where
  pub folder : Path
  pub tasks : List Configured

abbrev pub home_of : Setup → Package → Home
home_of setup p = record { folder = p.folder; tasks = configured setup p }

-- ---- what is declared

abbrev pub folders_of : List Home → List Path
folders_of homes = map (λ h. h.folder) homes

-- of the homes with these folders, this one is the path's, and some of its tasks declares the path
abbrev pub declares_in : List Path → Path → Home → Bool
declares_in folders path home = is_home_of folders home.folder path && list_any (λ t. declares t.outputs home.folder path) home.tasks

unfoldable pub declared_in : List Home → Path → Bool
declared_in homes path = list_any (declares_in (folders_of homes) path) homes

-- a configured task of the path's home declares it
abbrev pub is_declared : Setup → List Package → Path → Bool
is_declared setup owners path = declared_in (map (home_of setup) owners) path

-- ---- the other tasks of an owner

-- what the configured tasks but this one declare, in the order of the scripts, which ascend by name
abbrev pub others_than : List ℕ → List Configured → List (List (List ℕ))
others_than task tasks = map (λ t. t.outputs) (filter (λ t. not (name_eq t.task task)) tasks)
