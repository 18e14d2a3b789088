-- Which order a list of words is, or why it is none.
use Rattle.std.specs.Prelude.{ℕ, ◌+◌, Bool, true, false, not, ◌&&◌, ◌||◌, ◌==◌, List, [], ◌∷◌, ◌++◌, Option, Some, None, is_some, unwrap_or, option_to_list, option_and_then, Result, Ok, Err, if◌then◌else◌, codes, bytes_eq}
use Rattle.std.specs.Option.{option_or, option_flatten}
use Rattle.std.specs.List.{flat_map, list_any}
use Rattle.key_table.specs.declared.row.Kind.{Kind}
use Rattle.cli_words.specs.declared.options.Command.{Command}
use Rattle.cli_words.specs.declared.options.Command.TheVariants as command
use Rattle.cli_words.specs.declared.options.TheConstants.{FILTERS, WIDTH, LOGS, ENV_MODE, KEEP_ON, DRY, FORCE, CACHE, SHARED, DOCKER, KEEP}
use Rattle.cli_words.specs.declared.commands.TheConstants.{DEFAULT_WIDTH}
use Rattle.cli_words.specs.declared.order.Order.{Order}
use Rattle.cli_words.specs.declared.order.Order.TheVariants.{Run, Prune, Sample, Compact, Help}
use Rattle.cli_words.specs.declared.order.RunOrder.{RunOrder}
use Rattle.cli_words.specs.declared.order.KeepOn.TheVariants.{Never}
use Rattle.cli_words.specs.declared.order.Access.{Access}
use Rattle.cli_words.specs.declared.error.WordsErr.{WordsErr}
use Rattle.cli_words.specs.declared.error.WordsErr.TheVariants.{Unknown, NoTask, BadValue, Twice}
use Rattle.cli_words.specs.Options.{takes_names, may_repeat}
use Rattle.cli_words.specs.Values.{is_allowed, width_in, logs_in, env_word_in, keep_on_in, access_in, keep_in, sample_size, rights, no_rights, access_of}
use Rattle.cli_words.specs.Grammar.{Item, Bare, Used, Extra, Stray, items}

-- ---- what items say

abbrev pub name_of : Item → Option (List ℕ)
name_of (Bare name) = Some name
name_of (Used kind place value) = None
name_of (Extra words) = None
name_of Stray = None

-- the bare words, in order
unfoldable pub names_in : List (ℕ × Item) → List (List ℕ)
names_in all = flat_map (λ placed. option_to_list (name_of placed.1)) all

abbrev pub has_names : List (ℕ × Item) → Bool
has_names all = list_any (λ placed. is_some (name_of placed.1)) all

abbrev pub extra_of : Item → Option (List (List ℕ))
extra_of (Bare name) = None
extra_of (Used kind place value) = None
extra_of (Extra words) = Some words
extra_of Stray = None

abbrev pub first_extra : List (ℕ × Item) → Option (List (List ℕ))
first_extra [] = None
first_extra (placed ∷ rest) = option_or (extra_of placed.1) (first_extra rest)

-- the words behind `--`
unfoldable pub extra_in : List (ℕ × Item) → List (List ℕ)
extra_in all = unwrap_or (first_extra all) []

-- the value, if any, of an option with this place
abbrev pub use_of : ℕ → Item → Option (Option (List ℕ))
use_of place (Bare name) = None
use_of place (Used kind other value) = if other == place then Some value else None
use_of place (Extra words) = None
use_of place Stray = None

-- the first option with this place
unfoldable pub first_use : ℕ → List (ℕ × Item) → Option (Option (List ℕ))
first_use place [] = None
first_use place (placed ∷ rest) = option_or (use_of place placed.1) (first_use place rest)

abbrev pub is_used : ℕ → List (ℕ × Item) → Bool
is_used place all = is_some (first_use place all)

abbrev pub value_of_use : ℕ → Item → Option (List ℕ)
value_of_use place item = option_flatten (use_of place item)

-- the values of the options with this place, in order
unfoldable pub values_in : ℕ → List (ℕ × Item) → List (List ℕ)
values_in place all = flat_map (λ placed. option_to_list (value_of_use place placed.1)) all

-- ---- faults

-- of the option at this place: it stands again where it may not, or has a value that it may not have
abbrev pub use_fault : ℕ → Bool → Bool → Option WordsErr
use_fault at true allowed = Some (Twice at)
use_fault at false true = None
use_fault at false false = Some (BadValue at)

-- it stands among the items before, where it may stand once
abbrev pub is_again : Kind → ℕ → List (ℕ × Item) → Bool
is_again kind place before = not (may_repeat kind) && is_used place before

-- `--shared` and `--cache` do not go together
abbrev pub excludes : ℕ → List (ℕ × Item) → Bool
excludes place before = if place == SHARED then is_used CACHE before else (if place == CACHE then is_used SHARED before else false)

-- the fault of the item, behind those before
abbrev pub fault_of : Command → List (ℕ × Item) → ℕ → Item → Option WordsErr
fault_of command before at (Bare name) = if takes_names command then None else Some (Unknown at)
fault_of command before at (Used kind place value) = use_fault at (is_again kind place before) (is_allowed place value && not (excludes place before))
fault_of command before at (Extra words) = None
fault_of command before at Stray = Some (Unknown at)

unfoldable pub first_fault : Command → List (ℕ × Item) → List (ℕ × Item) → Option WordsErr
first_fault command before [] = None
first_fault command before (placed ∷ rest) = option_or (fault_of command before placed.0 placed.1) (first_fault command (before ++ placed ∷ []) rest)

-- no name, where the command wants one
abbrev pub names_fault : Command → List (ℕ × Item) → Option WordsErr
names_fault command all = if takes_names command && not (has_names all) then Some NoTask else None

unfoldable pub fault_in : Command → List (ℕ × Item) → Option WordsErr
fault_in command all = option_or (first_fault command [] all) (names_fault command all)

-- ---- orders

-- the access to stores where no option says it
abbrev pub local_alone : Access
local_alone = access_of (rights true true) no_rights

unfoldable pub run_order : List (ℕ × Item) → RunOrder
run_order all = record {
  tasks = names_in all;
  filters = values_in FILTERS all;
  args = extra_in all;
  width = unwrap_or (option_and_then width_in (first_use WIDTH all)) DEFAULT_WIDTH;
  force = is_used FORCE all;
  dry = is_used DRY all;
  keep_on = unwrap_or (option_and_then keep_on_in (first_use KEEP_ON all)) Never;
  logs = option_and_then logs_in (first_use LOGS all);
  env_word = option_and_then env_word_in (first_use ENV_MODE all);
  access = unwrap_or (option_and_then access_in (first_use CACHE all)) local_alone;
  shared = is_used SHARED all;
}

abbrev pub order_in : Command → List (ℕ × Item) → Order
order_in command.Run all = Run (run_order all)
order_in command.Prune all = Prune (names_in all) (is_used DOCKER all)
order_in command.Compact all = Compact (option_and_then keep_in (first_use KEEP all))

abbrev pub unless : {A : Type 0} → Option WordsErr → A → Result A WordsErr
unless None answer = Ok answer
unless (Some fault) answer = Err fault

-- the order that the words behind a command are, the first of which has the place `at`
unfoldable pub command_order : Command → ℕ → List (List ℕ) → Result Order WordsErr
command_order command at words = unless (fault_in command (items command at words)) (order_in command (items command at words))

abbrev pub sample_of : Option ℕ → List (List ℕ) → Result Order WordsErr
sample_of None more = Err (BadValue 1)
sample_of (Some size) [] = Ok (Sample size)
sample_of (Some size) (word ∷ more) = Err (Unknown 2)

-- the order that the words behind `sample` are: a size alone
abbrev pub sample_order : List (List ℕ) → Result Order WordsErr
sample_order [] = Err (BadValue 0)
sample_order (size ∷ more) = sample_of (sample_size size) more

abbrev pub is_help : List ℕ → Bool
is_help word = bytes_eq word (codes "help") || bytes_eq word (codes "--help") || bytes_eq word (codes "-h")

-- the order that the words after the program's name are
unfoldable pub order_of : List (List ℕ) → Result Order WordsErr
order_of [] = Ok Help
order_of (word ∷ words) =
    if is_help word then Ok Help
    else (if bytes_eq word (codes "run") then command_order command.Run 1 words
    else (if bytes_eq word (codes "prune") then command_order command.Prune 1 words
    else (if bytes_eq word (codes "sample") then sample_order words
    else (if bytes_eq word (codes "compact") then command_order command.Compact 1 words
    else command_order command.Run 0 (word ∷ words)))))
