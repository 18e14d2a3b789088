-- Lists of globs that read, wherever they stand: what `globs` makes of them is never refused.
use Rattle.std.specs.Prelude.{◌≡◌, ℕ, List, None, ⊤}
use Rattle.std.specs.List.{AllByRecursion}
use Rattle.std.specs.Option.{IfSome}
use Rattle.globs.specs.Lists.{list_fault}
use Rattle.turbo_config.specs.declared.entry.Entry.{Entry}
use Rattle.turbo_config.specs.declared.entry.TaskDef.{TaskDef}
use Rattle.turbo_config.specs.declared.glob_fault.ListKind.{ListKind}
use Rattle.turbo_config.specs.declared.glob_fault.ListKind.TheVariants as kind
use Rattle.turbo_config.specs.Globs.{input_fault}

-- the texts read as a list of globs
abbrev pub AreGlobs : List (List ℕ) → Type 0
AreGlobs texts = list_fault 0 texts ≡ None

-- each text is one that `inputs` may have
abbrev pub AreInputs : List (List ℕ) → Type 0
AreInputs texts = AllByRecursion (λ text. input_fault text ≡ None) texts

-- the texts are what a list of this kind has
abbrev pub AreOfKind : ListKind → List (List ℕ) → Type 0
AreOfKind kind.Texts texts = ⊤
AreOfKind kind.Globs texts = AreGlobs texts
AreOfKind kind.Inputs texts = AreInputs texts

-- so are `inputs` and `outputs` of an entry
abbrev pub EntryReads : Entry → Type 0
EntryReads e = IfSome e.inputs AreInputs × IfSome e.outputs AreGlobs

-- and of a definition
abbrev pub DefReads : TaskDef → Type 0
DefReads def = IfSome def.inputs AreInputs × AreGlobs def.outputs

-- and of all entries
abbrev pub EntriesRead : List (List ℕ × Entry) → Type 0
EntriesRead entries = AllByRecursion (λ e. EntryReads e.1) entries
