-- What is known of a file, whatever task is asked about, and what a task makes of it.
use Rattle.std.specs.Prelude.{◌≡◌, ◌==◌, ◌<◌, ◌&&◌, ◌||◌, ℕ, zero, suc, Bool, true, false, not, if◌then◌else◌, List, [], ◌∷◌, ◌++◌, length, slice_index_or, slice_set, Option, Some, None, ⊤, nat_lt}
use Rattle.std.specs.List.{slice_get, list_any, AllByRecursion}
use Rattle.std.specs.Option.{option_map, IfSome}
use Rattle.rel_path.specs.Paths.{Path, path_eq}
use Rattle.workspaces.specs.declared.member.Package.{Package}
use Rattle.workspaces.specs.Lists.{places}
use Rattle.workspaces.specs.Space.{is_home_of, is_root_folder, manifest_in}
use Rattle.globs.specs.Lists.{list_takes}
use Rattle.task_inputs.specs.declared.files.FileFacts.{FileFacts}
use Rattle.input_entries.specs.declared.entries.InputList.{InputList}
use Rattle.task_inputs.specs.declared.tasks.TaskGlobs.{TaskGlobs}
use Rattle.task_inputs.specs.declared.definitions.DefinedTask.{DefinedTask}
use Rattle.task_inputs.specs.Homes.{Home, folders_of, declared_in}
use Rattle.input_entries.specs.Entries.{entries_of, has_default, rest_where, any_reaches, is_wide}
use Rattle.task_inputs.specs.Inputs.{config_in}

-- ---- of a file

-- the place of the first that passes
abbrev pub place_by : {X : Type 0} → (X → Bool) → List X → Option ℕ
place_by test [] = None
place_by test (x ∷ xs) = if test x then Some 0 else option_map suc (place_by test xs)

-- the number of the path's home
unfoldable pub home_place : List Home → Path → Option ℕ
home_place homes path = place_by (λ h. is_home_of (folders_of homes) h.folder path) homes

-- the `package.json` of a package
abbrev pub is_manifest_in : List Home → Path → Bool
is_manifest_in homes path = list_any (λ h. not (is_root_folder h.folder) && path_eq path (manifest_in h.folder)) homes

unfoldable pub may_count_in : List Home → Path → Bool
may_count_in homes path = not (declared_in homes path) && not (is_manifest_in homes path)

unfoldable pub fact_by : (Path → Bool) → List Home → List (List ℕ) → Path → FileFacts
fact_by ignored homes globals path = record {
  home = home_place homes path;
  may_count = may_count_in homes path;
  ignored = ignored path;
  global = list_takes globals path;
}

abbrev pub is_at : Option ℕ → ℕ → Bool
is_at None place = false
is_at (Some home) place = home == place

-- ---- of a task

abbrev pub IsList : Option (List (List ℕ)) → Option InputList → Type 0
IsList None None = ⊤
IsList None (Some list) = ⊥
IsList (Some texts) None = ⊥
IsList (Some texts) (Some list) = (list.globs.items ≡ entries_of texts) × (list.has_default ≡ has_default texts)

-- the task was read
pub record IsRead (owners : List Package) (t : DefinedTask) (task : TaskGlobs) : Type 0 where
  pub member : Package
  pub stands : slice_get owners t.owner ≡ Some member
  pub place : task.place ≡ t.owner
  pub folder : task.folder ≡ member.folder
  pub inputs : IsList t.def.inputs task.inputs

-- a glob that is relative to the root may give it a file
abbrev pub is_wide_list : Option InputList → Bool
is_wide_list None = false
is_wide_list (Some list) = list_any is_wide list.globs.items

-- ---- of both

abbrev pub asked_by : Bool → Option InputList → Path → Option Path → Bool
asked_by default None path rest = default
asked_by default (Some list) path rest = (any_reaches false list.globs.items path rest || (list.has_default && default)) && not (any_reaches true list.globs.items path rest)

-- the file is in the default set of the owner of this number
abbrev pub is_default_at : FileFacts → ℕ → Bool
is_default_at file place = is_at file.home place && not file.ignored

-- the task asks for the file
abbrev pub asks_by : TaskGlobs → FileFacts → Path → Bool
asks_by task file path = asked_by (is_default_at file task.place) task.inputs path (rest_where (is_at file.home task.place) task.folder path)

-- the task takes the file
unfoldable pub takes_by : TaskGlobs → FileFacts → Path → Bool
takes_by task file path =
    (path_eq path (manifest_in task.folder) || path_eq path (config_in task.folder))
    || (file.may_count && (asks_by task file path || file.global))

-- ---- lists of places

-- two ascending lists of so many numbers together, ascending, each number once
unfoldable pub merged : ℕ → List ℕ → List ℕ → List ℕ
merged zero xs ys = []
merged (suc n) [] ys = ys
merged (suc n) (x ∷ xs) [] = x ∷ xs
merged (suc n) (x ∷ xs) (y ∷ ys) = if nat_lt x y then x ∷ merged n xs (y ∷ ys) else (if x == y then x ∷ merged n xs ys else y ∷ merged n (x ∷ xs) ys)

-- the row of each home lists the places of its files
abbrev pub AreNear : List FileFacts → List (List ℕ) → Type 0
AreNear files rows = (q : ℕ) → q < length rows → slice_index_or rows q [] ≡ places (λ f. is_at f.home q) files

-- each home is among so many
abbrev pub AreHomesBelow : ℕ → List FileFacts → Type 0
AreHomesBelow count files = AllByRecursion (λ f. IfSome f.home (λ home. home < count)) files

-- the place was put behind those of the home
abbrev pub Adds : Option ℕ → ℕ → List (List ℕ) → List (List ℕ) → Type 0
Adds None place old new = new ≡ old
Adds (Some home) place old new = new ≡ slice_set old home (slice_index_or old home [] ++ place ∷ [])
