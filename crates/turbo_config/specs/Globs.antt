-- Lists of globs in a turbo.json, and the first entry that is none (Turborepo, "Configuring turbo.json", "inputs" and "outputs").
use Rattle.std.specs.Prelude.{◌≡◌, ℕ, ◌+◌, if◌then◌else◌, eqb, List, [], ◌∷◌, drop, Option, Some, None, Result, MatchResult, bytes_eq, codes}
use Rattle.std.specs.List.{starts_with}
use Rattle.std.specs.Str.{chars}
use Rattle.std.specs.Fmt.{decimal}
use Rattle.glob_syntax.specs.declared.error.GlobErr.{GlobErr}
use Rattle.glob_syntax.specs.Reading.{fault_at}
use Rattle.globs.specs.Lists.{fault_in}
use Rattle.json_view.specs.Pointer.{pointer_to}
use Rattle.turbo_config.specs.declared.error.ConfigErr.{ConfigErr}
use Rattle.turbo_config.specs.declared.error.ConfigErr.TheVariants.{Glob, OutOfMemory}
use Rattle.turbo_config.specs.declared.glob_fault.TheConstants.{ROOT_CHARS, NOT_ROOT_CHARS}
use Rattle.turbo_config.specs.declared.glob_fault.ListKind.{ListKind}
use Rattle.turbo_config.specs.declared.glob_fault.ListKind.TheVariants as kind

-- stands for the default inputs
abbrev pub default_text : List ℕ
default_text = codes "$TURBO_DEFAULT$"

-- Why an entry of `inputs` is no glob, with its place in the whole text. `$TURBO_DEFAULT$` stands for the default inputs; a glob
-- behind `$TURBO_ROOT$/` is relative to the root; each other entry is an optional `!` and a glob.
unfoldable pub input_fault : List ℕ → Option GlobErr
input_fault text =
    if bytes_eq text default_text then None else
    (if starts_with eqb text (codes "$TURBO_ROOT$/") then fault_at ROOT_CHARS (chars (drop ROOT_CHARS text)) else
    (if starts_with eqb text (codes "!$TURBO_ROOT$/") then fault_at NOT_ROOT_CHARS (chars (drop NOT_ROOT_CHARS text)) else
    fault_in text))

-- Why an entry of `outputs` or `globalDependencies` is none: it is an optional `!` and a glob.
unfoldable pub glob_fault : List ℕ → Option GlobErr
glob_fault text = fault_in text

-- why an entry is none of those that a list of this kind may have
abbrev pub fault_of : ListKind → List ℕ → Option GlobErr
fault_of kind.Texts text = None
fault_of kind.Globs text = glob_fault text
fault_of kind.Inputs text = input_fault text

-- the fault is found, or memory is wanting
abbrev pub Finds : Option GlobErr → Result (Option GlobErr) ConfigErr → Type 0
Finds fault result = MatchResult result (λ found. found ≡ fault) (λ e. e ≡ OutOfMemory)

-- the pointer to the item of that number
abbrev pub item_at : List ℕ → ℕ → List ℕ
item_at at n = pointer_to at (decimal n)

abbrev pub fault_of_item : List ℕ → Option GlobErr → Option ConfigErr → Option ConfigErr
fault_of_item at None later = later
fault_of_item at (Some fault) later = Some (Glob at fault)

-- the fault of the first entry that has one, the first of them having this number
abbrev pub first_glob_fault : (List ℕ → Option GlobErr) → List ℕ → ℕ → List (List ℕ) → Option ConfigErr
first_glob_fault fault at n [] = None
first_glob_fault fault at n (text ∷ texts) = fault_of_item (item_at at n) (fault text) (first_glob_fault fault at (n + 1) texts)
