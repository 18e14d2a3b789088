-- The input files of a task (Turborepo docs, "Configuring turbo.json", `inputs` and `globalDependencies`; that outputs are no inputs, and which files always count, is this project's own rule).
use Rattle.std.specs.Prelude.{ℕ, Bool, true, false, not, ◌&&◌, ◌||◌, List, [], ◌∷◌, ◌++◌, Option, Some, None, codes}
use Rattle.std.specs.List.{list_any, slice_get}
use Rattle.rel_path.specs.Paths.{Path, path_eq}
use Rattle.globs.specs.Lists.{list_takes}
use Rattle.workspaces.specs.declared.member.Package.{Package}
use Rattle.workspaces.specs.Lists.{places}
use Rattle.workspaces.specs.Space.{manifest_in, is_root_folder}
use Rattle.turbo_config.specs.declared.entry.TaskDef.{TaskDef}
use Rattle.task_definitions.specs.Setup.{Setup}
use Rattle.task_inputs.specs.declared.definitions.DefinedTask.{DefinedTask}
use Rattle.task_inputs.specs.Homes.{is_home, is_declared}
use Rattle.input_entries.specs.Entries.{entries_of, has_default, rest_where, any_reaches, any_wide}

-- ---- what a task asks for

-- the default set of an owner: the files with this home that no ignore file leaves out
abbrev pub is_default : (Path → Bool) → List Package → Package → Path → Bool
is_default ignored owners p path = is_home owners p path && not (ignored path)

-- what the globs of the owner's own folder see of the path: what is left of it below the folder, where its home is this one
abbrev pub rest_in : List Package → Package → Path → Option Path
rest_in owners p path = rest_where (is_home owners p path) p.folder path

-- what a list of `inputs` takes: what its globs match, and the default set where `$TURBO_DEFAULT$` stands; what a glob with `!` matches is taken away from all of it
unfoldable pub is_explicit : (Path → Bool) → List Package → Package → List (List ℕ) → Path → Bool
is_explicit ignored owners p texts path =
    (any_reaches false (entries_of texts) path (rest_in owners p path) || (has_default texts && is_default ignored owners p path)) && not (any_reaches true (entries_of texts) path (rest_in owners p path))

-- without `inputs` the task asks for the default set
abbrev pub is_asked : (Path → Bool) → List Package → Package → Option (List (List ℕ)) → Path → Bool
is_asked ignored owners p None path = is_default ignored owners p path
is_asked ignored owners p (Some texts) path = is_explicit ignored owners p texts path

-- what every task asks for: `globalDependencies`, relative to the root
abbrev pub is_global : Setup → Path → Bool
is_global setup path = list_takes setup.globals.inputs path

-- ---- what counts

-- the `package.json` of a package; the root's own is none
abbrev pub is_manifest : List Package → Path → Bool
is_manifest owners path = list_any (λ p. not (is_root_folder p.folder) && path_eq path (manifest_in p.folder)) owners

-- no configured task of its home declares the file, and it is no package's `package.json`, which counts for the tasks of that package alone
abbrev pub may_count : Setup → List Package → Path → Bool
may_count setup owners path = not (is_declared setup owners path) && not (is_manifest owners path)

abbrev pub config_in : Path → Path
config_in folder = folder ++ codes "turbo.json" ∷ []

-- the owner's own `package.json` and `turbo.json`
abbrev pub always_counts : Package → Path → Bool
always_counts p path = path_eq path (manifest_in p.folder) || path_eq path (config_in p.folder)

-- the file, if it is there, is an input of a task of the owner with this definition
unfoldable pub is_input : (Path → Bool) → Setup → List Package → Package → TaskDef → Path → Bool
is_input ignored setup owners p def path = always_counts p path || (may_count setup owners path && (is_asked ignored owners p def.inputs path || is_global setup path))

-- ---- what comes through globs that are relative to the root

-- what a list of `inputs` takes by its globs of the root
abbrev pub is_asked_from_root : List Package → Package → Option (List (List ℕ)) → Path → Bool
is_asked_from_root owners p None path = false
is_asked_from_root owners p (Some texts) path = any_wide (entries_of texts) path && not (any_reaches true (entries_of texts) path (rest_in owners p path))

-- the file is an input of the task through a glob of the root or a global one
abbrev pub is_far_input : Setup → List Package → Package → TaskDef → Path → Bool
is_far_input setup owners p def path = may_count setup owners path && (is_asked_from_root owners p def.inputs path || is_global setup path)

-- ---- of several tasks

-- the places in the walk of the inputs of a task with this definition, where its owner is there
abbrev pub row_of : (Path → Bool) → Setup → List Package → List Path → TaskDef → Option Package → List ℕ
row_of ignored setup owners walk def None = []
row_of ignored setup owners walk def (Some p) = places (is_input ignored setup owners p def) walk

-- the places in the walk of the files that a task takes
abbrev pub input_row : (Path → Bool) → Setup → List Package → List Path → DefinedTask → List ℕ
input_row ignored setup owners walk t = row_of ignored setup owners walk t.def (slice_get owners t.owner)
