-- What files say of a task: a set of keys, each there or not; how two are merged, and what a task without a key has (Turborepo, "Configuring turbo.json" and "Package Configurations", `$TURBO_EXTENDS$`).
use Rattle.std.specs.Prelude.{◌≡◌, ℕ, ◌++◌, Bool, true, false, not, if◌then◌else◌, List, [], ◌∷◌, filter, Option, Some, None, unwrap_or, Result, IfOk, bytes_eq, codes}
use Rattle.std.specs.Option.{option_copied, option_map, option_or}
use Rattle.std.specs.Borrow.{Bor}
use Rattle.std.specs.Map.{lookup}
use Rattle.std.specs.BTreeMap.{is_at}
use Rattle.rel_path.specs.Paths.{name_cmp}
use Rattle.turbo_config.specs.declared.error.ConfigErr.{ConfigErr}
use Rattle.turbo_config.specs.declared.entry.Entry.{Entry}
use Rattle.turbo_config.specs.declared.entry.TaskDef.{TaskDef}
use Rattle.turbo_config.specs.declared.entry.LogMode.TheVariants.{Full}
use Rattle.turbo_config.specs.Globs.{default_text}

-- what stands at a name
abbrev pub at_name : {A : Type 0} → List (List ℕ × A) → List ℕ → Option A
at_name pairs name = lookup (is_at (name_cmp name)) pairs

-- no key
abbrev pub no_keys : Entry
no_keys = record {
  depends_on = None;
  inputs = None;
  outputs = None;
  env = None;
  pass = None;
  with_tasks = None;
  cache = None;
  persistent = None;
  interactive = None;
  interruptible = None;
  logs = None;
}

-- ---- arrays of a package's file

abbrev pub extends_text : List ℕ
extends_text = codes "$TURBO_EXTENDS$"

abbrev pub is_extends : List ℕ → Bool
is_extends text = bytes_eq text extends_text

-- the other texts
abbrev pub without_extends : List (List ℕ) → List (List ℕ)
without_extends texts = filter (λ text. not (is_extends text)) texts

-- the first such text stands for the array that the start has, later ones for nothing
unfoldable pub extended_array : List (List ℕ) → List (List ℕ) → List (List ℕ)
extended_array start [] = []
extended_array start (text ∷ texts) =
    if is_extends text then start ++ without_extends texts else text ∷ extended_array start texts

-- the array of a key, if it is there
abbrev pub Array : Type 0
Array = Option (List (List ℕ))

-- what an array above makes of the one below; where there is none below, the default counts as it
abbrev pub array_over : List (List ℕ) → Array → Array → Array
array_over default below None = below
array_over default below (Some above) = Some (extended_array (unwrap_or below default) above)

-- ---- one entry over another

-- each key that it has replaces that key, and arrays may extend those below
unfoldable pub over : Entry → Entry → Entry
over below above = record {
  depends_on = array_over [] below.depends_on above.depends_on;
  inputs = array_over (default_text ∷ []) below.inputs above.inputs;
  outputs = array_over [] below.outputs above.outputs;
  env = array_over [] below.env above.env;
  pass = array_over [] below.pass above.pass;
  with_tasks = array_over [] below.with_tasks above.with_tasks;
  cache = option_or above.cache below.cache;
  persistent = option_or above.persistent below.persistent;
  interactive = option_or above.interactive below.interactive;
  interruptible = option_or above.interruptible below.interruptible;
  logs = option_or above.logs below.logs;
}

-- the definition: what each key says, or its default
unfoldable pub def_of : Entry → TaskDef
def_of e = record {
  depends_on = unwrap_or e.depends_on [];
  inputs = e.inputs;
  outputs = unwrap_or e.outputs [];
  env = unwrap_or e.env [];
  pass = unwrap_or e.pass [];
  with_tasks = unwrap_or e.with_tasks [];
  cache = unwrap_or e.cache true;
  persistent = unwrap_or e.persistent false;
  interactive = unwrap_or e.interactive false;
  interruptible = unwrap_or e.interruptible false;
  logs = unwrap_or e.logs Full;
}

-- a call lends the entry, if there is one
abbrev pub Lends : Option Entry → Option (Bor Entry) → Type 0
Lends entry lent = option_copied lent ≡ entry

-- a call answers the definition that an entry has, if there is one
abbrev pub Defines : Option Entry → Result (Option TaskDef) ConfigErr → Type 0
Defines entry result = IfOk result (λ def. def ≡ option_map def_of entry)
