-- Which values each option allows (Turborepo's documentation of `turbo run`).
use Rattle.std.specs.Prelude.{ℕ, Bool, true, false, not, ◌==◌, ◌&&◌, ◌||◌, nat_lt, nat_le, List, [], ◌∷◌, length, Option, Some, None, is_some, is_none, option_and_then, if◌then◌else◌, codes, bytes_eq}
use Rattle.std.specs.Option.{option_map, option_or, option_zip}
use Rattle.std.specs.Char.{is_ascii_digit}
use Rattle.std.specs.List.{list_all}
use Rattle.std.specs.Str.Parse.{digits_value}
use Rattle.rel_path.specs.Limits.{width_limit}
use Rattle.cli_words.specs.declared.options.TheConstants.{FILTERS, WIDTH, LOGS, ENV_MODE, KEEP_ON, DRY, CACHE, KEEP}
use Rattle.cli_words.specs.declared.values.TheConstants.{MIN_WIDTH, MIN_SAMPLE, MAX_SAMPLE, MIN_KEEP, MAX_KEEP}
use Rattle.cli_words.specs.declared.order.LogWord.{LogWord}
use Rattle.cli_words.specs.declared.order.LogWord.TheVariants.{Full, HashOnly, NewOnly, ErrorsOnly, Silent}
use Rattle.cli_words.specs.declared.order.EnvWord.{EnvWord}
use Rattle.cli_words.specs.declared.order.EnvWord.TheVariants.{Strict, Loose}
use Rattle.cli_words.specs.declared.order.KeepOn as order
use Rattle.cli_words.specs.declared.order.KeepOn.TheVariants.{Never, DependenciesSuccessful, Always}
use Rattle.cli_words.specs.declared.order.Access.{Access}
use Rattle.cli_words.specs.declared.access.Rights.{Rights}
use Rattle.cli_words.specs.Cuts.{begins_with, before, behind, zero_digit, comma}

-- ---- numbers

-- decimal digits without sign or leading zero
abbrev pub is_numeral : List ℕ → Bool
is_numeral text = nat_lt 0 (length text) && list_all is_ascii_digit text && (length text == 1 || not (begins_with zero_digit text))

abbrev pub is_within : ℕ → ℕ → ℕ → Bool
is_within least most n = nat_le least n && nat_le n most

-- the number that a numeral means, where it is within these
unfoldable pub number : ℕ → ℕ → List ℕ → Option ℕ
number least most text = if is_numeral text && is_within least most (digits_value 10 text) then Some (digits_value 10 text) else None

abbrev pub width : List ℕ → Option ℕ
width text = number MIN_WIDTH width_limit text

abbrev pub sample_size : List ℕ → Option ℕ
sample_size text = number MIN_SAMPLE MAX_SAMPLE text

abbrev pub keep : List ℕ → Option ℕ
keep text = number MIN_KEEP MAX_KEEP text

-- ---- words

abbrev pub log_word : List ℕ → Option LogWord
log_word text =
    if bytes_eq text (codes "full") then Some Full
    else (if bytes_eq text (codes "hash-only") then Some HashOnly
    else (if bytes_eq text (codes "new-only") then Some NewOnly
    else (if bytes_eq text (codes "errors-only") then Some ErrorsOnly
    else (if bytes_eq text (codes "none") then Some Silent else None))))

abbrev pub env_word : List ℕ → Option EnvWord
env_word text = if bytes_eq text (codes "strict") then Some Strict else (if bytes_eq text (codes "loose") then Some Loose else None)

abbrev pub keep_on : List ℕ → Option order.KeepOn
keep_on text =
    if bytes_eq text (codes "never") then Some Never
    else (if bytes_eq text (codes "dependencies-successful") then Some DependenciesSuccessful
    else (if bytes_eq text (codes "always") then Some Always else None))

-- ---- stores

abbrev pub rights : Bool → Bool → Rights
rights reads puts = record { reads = reads; puts = puts }

-- of a store that is not named
abbrev pub no_rights : Rights
no_rights = rights false false

abbrev pub local_rights : List ℕ → Option Rights
local_rights part =
    if bytes_eq part (codes "local:rw") then Some (rights true true)
    else (if bytes_eq part (codes "local:r") then Some (rights true false)
    else (if bytes_eq part (codes "local:") then Some no_rights else None))

abbrev pub second_rights : List ℕ → Option Rights
second_rights part =
    if bytes_eq part (codes "remote:rw") then Some (rights true true)
    else (if bytes_eq part (codes "remote:r") then Some (rights true false)
    else (if bytes_eq part (codes "remote:") then Some no_rights else None))

abbrev pub access_of : Rights → Rights → Access
access_of local second = record { local_reads = local.reads; local_puts = local.puts; second_reads = second.reads; second_puts = second.puts }

-- one part, which names one store
abbrev pub one_store : List ℕ → Option Access
one_store part = option_or (option_map (λ local. access_of local no_rights) (local_rights part)) (option_map (λ second. access_of no_rights second) (second_rights part))

-- two parts, of which the first names the local store
abbrev pub two_stores : List ℕ → List ℕ → Option Access
two_stores local second = option_map (λ both. access_of both.0 both.1) (option_zip (local_rights local) (second_rights second))

abbrev pub stores : List ℕ → Option (List ℕ) → Option Access
stores part None = one_store part
stores part (Some other) = option_or (two_stores part other) (two_stores other part)

abbrev pub if_puts : Access → Option Access
if_puts access = if access.local_puts || access.second_puts then Some access else None

-- one part or two with a comma between them, each store at most once, and results are put into one at least
unfoldable pub access : List ℕ → Option Access
access text = option_and_then if_puts (stores (before comma text) (behind comma text))

-- ---- what the value given to each option says; nothing where it is missing or not allowed

abbrev pub width_in : Option (List ℕ) → Option ℕ
width_in given = option_and_then width given

abbrev pub keep_in : Option (List ℕ) → Option ℕ
keep_in given = option_and_then keep given

abbrev pub logs_in : Option (List ℕ) → Option LogWord
logs_in given = option_and_then log_word given

abbrev pub env_word_in : Option (List ℕ) → Option EnvWord
env_word_in given = option_and_then env_word given

-- without a value a run goes on always
abbrev pub keep_on_in : Option (List ℕ) → Option order.KeepOn
keep_on_in None = Some Always
keep_on_in (Some text) = keep_on text

abbrev pub access_in : Option (List ℕ) → Option Access
access_in given = option_and_then access given

-- of a dry run: none, or `text`, the one form in which it is printed
abbrev pub is_dry_form : Option (List ℕ) → Bool
is_dry_form None = true
is_dry_form (Some form) = bytes_eq form (codes "text")

-- The value is there and allowed, or there is none at an option without one. Any text is a filter.
abbrev pub is_allowed : ℕ → Option (List ℕ) → Bool
is_allowed place given =
    if place == FILTERS then is_some given
    else (if place == WIDTH then is_some (width_in given)
    else (if place == LOGS then is_some (logs_in given)
    else (if place == ENV_MODE then is_some (env_word_in given)
    else (if place == KEEP_ON then is_some (keep_on_in given)
    else (if place == CACHE then is_some (access_in given)
    else (if place == KEEP then is_some (keep_in given)
    else (if place == DRY then is_dry_form given
    else is_none given)))))))
