-- What the bytes of a turbo.json mean (Turborepo, "Configuring turbo.json" and "Package Configurations"; JSON with comments and trailing commas).
use Rattle.std.specs.Prelude.{ℕ, ◌==◌, nat_eq, Bool, false, if◌then◌else◌, List, [], ◌∷◌, Option, Some, None, is_some, Result, Ok, codes}
use Rattle.std.specs.List.{list_any}
use Rattle.serde_json.specs.Data.{Data, Members, no_members, member}
use Rattle.json_view.specs.Plain.{plain, open_comment}
use Rattle.json_view.specs.Reading.{reading}
use Rattle.json_view.specs.Look.{Look, Nothing, Here, Else, texts_in, value_in}
use Rattle.json_view.specs.Pointer.{pointer_to}
use Rattle.key_table.specs.Entry.{Entry as Key, entry_named}
use Rattle.rel_path.specs.Paths.{path_eq}
use Rattle.turbo_config.specs.declared.error.ConfigErr.{ConfigErr}
use Rattle.turbo_config.specs.declared.error.ConfigErr.TheVariants.{Pipeline, NoExtends, OpenComment, NotJson}
use Rattle.turbo_config.specs.declared.files.Globals.{Globals}
use Rattle.turbo_config.specs.RootFile.{RootFile}
use Rattle.turbo_config.specs.declared.files.PackageConfig.{PackageConfig}
use Rattle.turbo_config.specs.declared.tasks.FileKind.TheVariants.{Root, Package}
use Rattle.turbo_config.specs.declared.keys.TheConstants.{ENV_MODE, GLOBAL_INPUTS, GLOBAL_ENV, GLOBAL_PASS, TASKS, PIPELINE, EXTENDS}
use Rattle.turbo_config.specs.Answers.{◌>>=◌, unless, or_fault}
use Rattle.turbo_config.specs.Keys.{top_keys}
use Rattle.turbo_config.specs.Names.{root_name}
use Rattle.turbo_config.specs.declared.glob_fault.ListKind.TheVariants.{Globs, Texts}
use Rattle.turbo_config.specs.Values.{list_at, members_at, env_mode_at}
use Rattle.turbo_config.specs.Tasks.{tasks_of}

-- ---- the value

abbrev pub comment_fault : Option ℕ → Option ConfigErr
comment_fault None = None
comment_fault (Some at) = Some (OpenComment at)

-- the value that the text writes, comments and trailing commas left out
unfoldable pub value_of : List ℕ → Result Data ConfigErr
value_of bytes = unless (comment_fault (open_comment bytes)) (or_fault NotJson (reading (plain bytes)))

-- ---- keys at the top

-- `pipeline` is the key of Turborepo 1
unfoldable pub pipeline_fault : Data → Option ConfigErr
pipeline_fault d = if is_some (value_in (codes "/pipeline") d) then Some Pipeline else None

abbrev pub is_root_alone : List (List ℕ) → Bool
is_root_alone texts = path_eq texts (root_name ∷ [])

abbrev pub extends_root : Look (List (List ℕ)) → Bool
extends_root Nothing = false
extends_root (Here texts) = is_root_alone texts
extends_root Else = false

-- a package's file has `"extends": ["//"]`
unfoldable pub extends_fault : Data → Option ConfigErr
extends_fault d = if extends_root (texts_in (codes "/extends") d) then None else Some NoExtends

abbrev pub no_globals : Globals
no_globals = record { inputs = []; env = []; pass = []; env_mode = None }

-- the places of the keys at the top
abbrev pub is_top : ℕ → Bool
is_top place =
    list_any (nat_eq place) (ENV_MODE ∷ GLOBAL_INPUTS ∷ GLOBAL_ENV ∷ GLOBAL_PASS ∷ TASKS ∷ PIPELINE ∷ EXTENDS ∷ [])

-- one more key; those that are none of the four say nothing here
abbrev pub with_global : ℕ → List ℕ → Data → Globals → Result Globals ConfigErr
with_global place at d g =
    if place == ENV_MODE then (env_mode_at at d >>= λ mode. Ok (record g { env_mode = Some mode })) else
    (if place == GLOBAL_INPUTS then (list_at Globs at d >>= λ texts. Ok (record g { inputs = texts })) else
    (if place == GLOBAL_ENV then (list_at Texts at d >>= λ texts. Ok (record g { env = texts })) else
    (if place == GLOBAL_PASS then (list_at Texts at d >>= λ texts. Ok (record g { pass = texts })) else Ok g)))

abbrev pub with_top_key : Option Key → List ℕ → Data → Globals → Result Globals ConfigErr
with_top_key None at d g = Ok g
with_top_key (Some key) at d g = with_global key.place at d g

unfoldable pub with_top_member : List ℕ → Data → Globals → Result Globals ConfigErr
with_top_member name d g = with_top_key (entry_named name top_keys) (pointer_to [] name) d g

-- the global keys, ascending
abbrev pub with_top_members : Members → Globals → Result Globals ConfigErr
with_top_members no_members g = Ok g
with_top_members (member name d ms) g = with_top_member name d g >>= with_top_members ms

abbrev pub globals_in : Data → Result Globals ConfigErr
globals_in d = members_at [] d >>= λ members. with_top_members members no_globals

-- ---- the two kinds of file

abbrev pub root_in : Data → Result RootFile ConfigErr
root_in d = unless (pipeline_fault d) (do
  globals ← globals_in d
  tasks ← tasks_of Root (value_in (codes "/tasks") d)
  Ok (record { globals = globals; tasks = tasks }))

abbrev pub package_in : Data → Result PackageConfig ConfigErr
package_in d = unless (pipeline_fault d) (unless (extends_fault d) (do
  tasks ← tasks_of Package (value_in (codes "/tasks") d)
  Ok (record { tasks = tasks })))

-- the root's turbo.json
unfoldable pub root_of : List ℕ → Result RootFile ConfigErr
root_of bytes = value_of bytes >>= root_in

-- a package's turbo.json
unfoldable pub package_of : List ℕ → Result PackageConfig ConfigErr
package_of bytes = value_of bytes >>= package_in
