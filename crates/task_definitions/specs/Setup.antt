-- The tasks of a repository by its files (Turborepo, "Configuring turbo.json" and "Package Configurations"; that an entry `package#task` of the root stands for `task` whole is this project's own).
use Rattle.std.specs.Prelude.{◌≡◌, ℕ, ◌&&◌, ◌||◌, ◌++◌, Bool, false, not, if◌then◌else◌, List, [], ◌∷◌, Option, Some, None, option_and_then, option_to_list}
use Rattle.std.specs.Option.{option_map, option_or}
use Rattle.std.specs.List.{list_any}
use Rattle.std.specs.List.Sorted.{IsStrictlySortedBy}
use Rattle.std.specs.Map.{keys_of}
use Rattle.std.specs.BTreeMap.{insert_entry, is_at}
use Rattle.std.specs.BTreeSet.{insert_key}
use Rattle.rel_path.specs.Paths.{name_cmp}
use Rattle.turbo_config.specs.declared.entry.Entry.{Entry}
use Rattle.turbo_config.specs.declared.entry.TaskDef.{TaskDef}
use Rattle.turbo_config.specs.declared.files.Globals.{Globals}
use Rattle.turbo_config.specs.RootFile.{RootFile}
use Rattle.turbo_config.specs.declared.files.PackageConfig.{PackageConfig}
use Rattle.turbo_config.specs.Names.{has_hash, behind_hash, full_name, root_name, is_root_name, is_task_name}
use Rattle.turbo_config.specs.Entries.{at_name, no_keys, over, def_of}
use Rattle.turbo_config.specs.Files.{no_globals}

-- ---- the files of a repository

-- the tasks of a file by their keys, ascending
abbrev pub Tasks : Type 0
Tasks = List (List ℕ × Entry)

-- the global keys, the root's tasks if it has a turbo.json, the packages' files by name, and the names of the scripts of all packages, both ascending
pub record Setup : Type 0 where
  pub globals : Globals
  pub root : Option Tasks
  pub packages : List (List ℕ × PackageConfig)
  pub scripts : List (List ℕ)

-- ascending by name; of two with one name the last counts
abbrev pub by_name : List (List ℕ × PackageConfig) → List (List ℕ × PackageConfig) → List (List ℕ × PackageConfig)
by_name so_far [] = so_far
by_name so_far (p ∷ ps) = by_name (insert_entry name_cmp so_far p.0 p.1) ps

-- ascending, each once
abbrev pub each_once : List (List ℕ) → List (List ℕ) → List (List ℕ)
each_once so_far [] = so_far
each_once so_far (name ∷ names) = each_once (insert_key name_cmp so_far name) names

abbrev pub globals_of : Option RootFile → Globals
globals_of None = no_globals
globals_of (Some root) = root.globals

unfoldable pub setup_of : Option RootFile → List (List ℕ × PackageConfig) → List (List ℕ) → Setup
setup_of root packages scripts = record {
  globals = globals_of root;
  root = option_map (λ r. r.tasks) root;
  packages = by_name [] packages;
  scripts = each_once [] scripts;
}

-- ---- definitions

-- the name is one of these
abbrev pub is_among : List (List ℕ) → List ℕ → Bool
is_among names name = list_any (is_at (name_cmp name)) names

-- the root's entry for a task of a package: `package#task`, or else `task`
abbrev pub root_entry : Tasks → List ℕ → List ℕ → Option Entry
root_entry tasks pkg task = option_or (at_name tasks (full_name pkg task)) (at_name tasks task)

-- the package's own
abbrev pub own_entry : List (List ℕ × PackageConfig) → List ℕ → List ℕ → Option Entry
own_entry packages pkg task = option_and_then (λ config. at_name config.tasks task) (at_name packages pkg)

-- the root's entry, or no key, with the package's own over it, where there is one of them
abbrev pub merged_entry : Option Entry → Option Entry → Option Entry
merged_entry below None = below
merged_entry None (Some above) = Some (over no_keys above)
merged_entry (Some below) (Some above) = Some (over below above)

-- without a turbo.json at the root: some package has a script of the name, which is one that a task may have
abbrev pub is_script_task : List (List ℕ) → List ℕ → Bool
is_script_task scripts task = is_task_name task && is_among scripts task

abbrev pub script_entry : List (List ℕ) → List ℕ → Option Entry
script_entry scripts task = if is_script_task scripts task then Some no_keys else None

-- with one: the entries for a name that a task may have. Of the files' keys no other comes up here: a `package#task` of the
-- root is looked up by its `task`, and a key that ends in no task's name is refused when its file is read
abbrev pub file_entry : Tasks → List (List ℕ × PackageConfig) → List ℕ → List ℕ → Option Entry
file_entry tasks packages pkg task =
    if is_task_name task then merged_entry (root_entry tasks pkg task) (own_entry packages pkg task) else None

abbrev pub entry_by : Option Tasks → Setup → List ℕ → List ℕ → Option Entry
entry_by None setup pkg task = script_entry setup.scripts task
entry_by (Some tasks) setup pkg task = file_entry tasks setup.packages pkg task

-- a task of the root is what the key `//#task` of the root's file says, and nothing else
abbrev pub root_task_entry : Option Tasks → List ℕ → Option Entry
root_task_entry None task = None
root_task_entry (Some tasks) task =
    if is_task_name task then at_name tasks (full_name root_name task) else None

abbrev pub entry_of : Setup → List ℕ → List ℕ → Option Entry
entry_of setup pkg task =
    if is_root_name pkg then root_task_entry setup.root task else entry_by setup.root setup pkg task

-- the definition of a task of a package or of the root, if it has one
unfoldable pub task_def : Setup → List ℕ → List ℕ → Option TaskDef
task_def setup pkg task = option_map def_of (entry_of setup pkg task)

-- ---- names

-- the names behind the first `#` of keys
abbrev pub tails_of : List (List ℕ) → List (List ℕ)
tails_of [] = []
tails_of (key ∷ keys) = option_to_list (behind_hash key) ++ tails_of keys

-- the name stands behind the first `#` of the key
abbrev pub is_tail : List ℕ → List ℕ → Bool
is_tail key name = is_among (option_to_list (behind_hash key)) name

-- a name without `#` that is one of these
abbrev pub is_plain_among : List (List ℕ) → List ℕ → Bool
is_plain_among names name = not (has_hash name) && is_among names name

-- a key of the root is `package#task` of this task
unfoldable pub ends_in : Option Tasks → List ℕ → Bool
ends_in None task = false
ends_in (Some tasks) task = is_among (tails_of (keys_of tasks)) task

-- some package's file has the task
abbrev pub is_own : List (List ℕ × PackageConfig) → List ℕ → Bool
is_own packages task = list_any (λ p. is_among (keys_of p.1.tasks) task) packages

abbrev pub is_plain_own : List (List ℕ × PackageConfig) → List ℕ → Bool
is_plain_own packages name = not (has_hash name) && is_own packages name

-- The name, which holds no `#`, is that of a task: a key of the root, or the end of one behind its `#`, or a key of a package's
-- file. Without a turbo.json at the root it is that of a script.
abbrev pub is_file_name : Tasks → List (List ℕ × PackageConfig) → List ℕ → Bool
is_file_name tasks packages name = not (has_hash name) && (is_among (keys_of tasks) name || ends_in (Some tasks) name || is_own packages name)

abbrev pub is_name_by : Option Tasks → Setup → List ℕ → Bool
is_name_by None setup name = is_script_task setup.scripts name
is_name_by (Some tasks) setup name = is_file_name tasks setup.packages name

unfoldable pub is_name : Setup → List ℕ → Bool
is_name setup name = is_name_by setup.root setup name

-- they ascend, each once, and are those names
pub record AreNames (setup : Setup) (names : List (List ℕ)) : Type 0 where
  pub ascending : IsStrictlySortedBy name_cmp names
  pub exact : (name : List ℕ) → is_among names name ≡ is_name setup name
