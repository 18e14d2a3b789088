-- How `tasks` of a turbo.json is read: its keys ascending, and in each task the keys of that task ascending (Turborepo, "Configuring turbo.json", "tasks").
use Rattle.std.specs.Prelude.{ℕ, ◌==◌, nat_eq, Bool, false, not, if◌then◌else◌, List, [], ◌∷◌, Option, Some, None, Result, Ok, Err, codes}
use Rattle.std.specs.List.{list_any}
use Rattle.std.specs.BTreeMap.{insert_entry}
use Rattle.serde_json.specs.Data.{Data, Members, no_members, member}
use Rattle.json_view.specs.Pointer.{pointer_to}
use Rattle.key_table.specs.declared.row.Kind.{Kind}
use Rattle.key_table.specs.declared.row.Kind.TheVariants as kind
use Rattle.key_table.specs.Entry.{Entry as Key, entry_named}
use Rattle.rel_path.specs.Paths.{name_cmp}
use Rattle.turbo_config.specs.declared.error.ConfigErr.{ConfigErr}
use Rattle.turbo_config.specs.declared.error.ConfigErr.TheVariants.{TaskName, ForeignKey, UnknownKey}
use Rattle.turbo_config.specs.declared.entry.Entry.{Entry}
use Rattle.turbo_config.specs.declared.entry.LogMode.{LogMode}
use Rattle.turbo_config.specs.declared.tasks.FileKind.{FileKind}
use Rattle.turbo_config.specs.declared.tasks.FileKind.TheVariants.{Root, Package}
use Rattle.turbo_config.specs.declared.keys.TheConstants.{DEPENDS_ON, INPUTS, OUTPUTS, ENV, PASS, WITH, CACHE, PERSISTENT, INTERACTIVE, INTERRUPTIBLE, LOGS}
use Rattle.turbo_config.specs.Answers.{◌>>=◌, unless}
use Rattle.turbo_config.specs.Keys.{task_keys}
use Rattle.turbo_config.specs.Names.{has_hash, task_of, is_task_name}
use Rattle.turbo_config.specs.declared.glob_fault.ListKind.{ListKind}
use Rattle.turbo_config.specs.declared.glob_fault.ListKind.TheVariants.{Inputs, Globs, Texts}
use Rattle.turbo_config.specs.Values.{flag_at, list_at, members_at, log_mode_at}
use Rattle.turbo_config.specs.Entries.{no_keys}

-- ---- one key of a task

-- the places of lists, of flags, and of the log mode
abbrev pub is_list : ℕ → Bool
is_list place = list_any (nat_eq place) (DEPENDS_ON ∷ INPUTS ∷ OUTPUTS ∷ ENV ∷ PASS ∷ WITH ∷ [])

abbrev pub is_flag : ℕ → Bool
is_flag place = list_any (nat_eq place) (CACHE ∷ PERSISTENT ∷ INTERACTIVE ∷ INTERRUPTIBLE ∷ [])

abbrev pub is_mode : ℕ → Bool
is_mode place = place == LOGS

-- a task has a key of this kind at the place
abbrev pub is_place : Kind → ℕ → Bool
is_place kind.Flag place = is_flag place
is_place kind.Choice place = is_mode place
is_place kind.Words place = is_list place
is_place other place = false

-- what the list of this place has
abbrev pub list_kind : ℕ → ListKind
list_kind place = if place == INPUTS then Inputs else (if place == OUTPUTS then Globs else Texts)

abbrev pub with_list : ℕ → List (List ℕ) → Entry → Entry
with_list place texts e =
    if place == DEPENDS_ON then record e { depends_on = Some texts } else
    (if place == INPUTS then record e { inputs = Some texts } else
    (if place == OUTPUTS then record e { outputs = Some texts } else
    (if place == ENV then record e { env = Some texts } else
    (if place == PASS then record e { pass = Some texts } else
    (if place == WITH then record e { with_tasks = Some texts } else e)))))

abbrev pub with_flag : ℕ → Bool → Entry → Entry
with_flag place flag e =
    if place == CACHE then record e { cache = Some flag } else
    (if place == PERSISTENT then record e { persistent = Some flag } else
    (if place == INTERACTIVE then record e { interactive = Some flag } else
    (if place == INTERRUPTIBLE then record e { interruptible = Some flag } else e)))

abbrev pub with_mode : ℕ → LogMode → Entry → Entry
with_mode place mode e = if place == LOGS then record e { logs = Some mode } else e

-- the entry with one more key; no key of a task has another kind
abbrev pub with_value : Kind → ℕ → List ℕ → Data → Entry → Result Entry ConfigErr
with_value kind.Flag place at d e = do
  flag ← flag_at at d
  Ok (with_flag place flag e)
with_value kind.Choice place at d e = do
  mode ← log_mode_at at d
  Ok (with_mode place mode e)
with_value kind.Words place at d e = do
  texts ← list_at (list_kind place) at d
  Ok (with_list place texts e)
with_value other place at d e = Err (UnknownKey at)

abbrev pub with_key : Option Key → List ℕ → Data → Entry → Result Entry ConfigErr
with_key None at d e = Err (UnknownKey at)
with_key (Some key) at d e = with_value key.kind key.place at d e

-- a member of a task adds its key
unfoldable pub with_member : List ℕ → List ℕ → Data → Entry → Result Entry ConfigErr
with_member at name d e = with_key (entry_named name task_keys) (pointer_to at name) d e

abbrev pub with_members : List ℕ → Members → Entry → Result Entry ConfigErr
with_members at no_members e = Ok e
with_members at (member name d ms) e = with_member at name d e >>= with_members at ms

-- ---- one task

-- a package's file has tasks of its own alone
abbrev pub is_foreign : FileKind → List ℕ → Bool
is_foreign Root key = false
is_foreign Package key = has_hash key

-- why a key of `tasks` is none that the file may have
unfoldable pub key_fault : FileKind → List ℕ → List ℕ → Option ConfigErr
key_fault file at key =
    if not (is_task_name (task_of key)) then Some (TaskName at) else
    (if is_foreign file key then Some (ForeignKey at) else None)

abbrev pub task_pointer : List ℕ → List ℕ
task_pointer key = pointer_to (codes "/tasks") key

abbrev pub entry_at : List ℕ → Data → Result Entry ConfigErr
entry_at at d = members_at at d >>= λ members. with_members at members no_keys

-- the entry of a key of `tasks`
unfoldable pub task_in : FileKind → List ℕ → Data → Result Entry ConfigErr
task_in file key d = unless (key_fault file (task_pointer key) key) (entry_at (task_pointer key) d)

-- ---- all tasks, ascending by their keys

abbrev pub with_tasks : FileKind → Members → List (List ℕ × Entry) → Result (List (List ℕ × Entry)) ConfigErr
with_tasks file no_members tasks = Ok tasks
with_tasks file (member key d ms) tasks = do
  entry ← task_in file key d
  with_tasks file ms (insert_entry name_cmp tasks key entry)

abbrev pub tasks_in : FileKind → Data → Result (List (List ℕ × Entry)) ConfigErr
tasks_in file d = members_at (codes "/tasks") d >>= λ members. with_tasks file members []

abbrev pub tasks_of : FileKind → Option Data → Result (List (List ℕ × Entry)) ConfigErr
tasks_of file None = Ok []
tasks_of file (Some d) = tasks_in file d
