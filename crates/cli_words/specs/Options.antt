-- The options of each command: spellings, kinds and places (Turborepo's documentation of `turbo run` and `turbo prune`).
use Rattle.std.specs.Prelude.{ℕ, Bool, true, false, List, [], ◌∷◌, codes}
use Rattle.key_table.specs.declared.row.Kind.{Kind}
use Rattle.key_table.specs.declared.row.Kind.TheVariants.{Flag, Word, Words, Number, Choice, Top}
use Rattle.key_table.specs.Entry.{Entry}
use Rattle.cli_words.specs.declared.options.Command.{Command}
use Rattle.cli_words.specs.declared.options.Command.TheVariants.{Run, Prune, Compact}
use Rattle.cli_words.specs.declared.options.TheConstants.{FILTERS, WIDTH, LOGS, ENV_MODE, KEEP_ON, DRY, FORCE, CACHE, SHARED, ARGS, DOCKER, KEEP}

abbrev pub spelling : List ℕ → Kind → ℕ → Entry
spelling name kind place = record { name = name; kind = kind; place = place }

-- of a run; `--` is for the extra words
abbrev pub run_options : List Entry
run_options =
    spelling (codes "--filter") Words FILTERS
    ∷ spelling (codes "-F") Words FILTERS
    ∷ spelling (codes "--concurrency") Number WIDTH
    ∷ spelling (codes "--output-logs") Choice LOGS
    ∷ spelling (codes "--env-mode") Choice ENV_MODE
    ∷ spelling (codes "--continue") Flag KEEP_ON
    ∷ spelling (codes "--dry") Flag DRY
    ∷ spelling (codes "--dry-run") Flag DRY
    ∷ spelling (codes "--force") Flag FORCE
    ∷ spelling (codes "--cache") Word CACHE
    ∷ spelling (codes "--shared") Flag SHARED
    ∷ spelling (codes "--") Top ARGS
    ∷ []

abbrev pub prune_options : List Entry
prune_options = spelling (codes "--docker") Flag DOCKER ∷ []

abbrev pub compact_options : List Entry
compact_options = spelling (codes "--keep") Number KEEP ∷ []

abbrev pub options_of : Command → List Entry
options_of Run = run_options
options_of Prune = prune_options
options_of Compact = compact_options

-- the command works on what it is given by name, and wants at least one
abbrev pub takes_names : Command → Bool
takes_names Run = true
takes_names Prune = true
takes_names Compact = false

-- the value may be the next word; that of a flag stands behind a `=` alone
abbrev pub takes_word : Kind → Bool
takes_word Flag = false
takes_word Word = true
takes_word Words = true
takes_word Number = true
takes_word Choice = true
takes_word Top = false

-- the option may stand again
abbrev pub may_repeat : Kind → Bool
may_repeat Flag = false
may_repeat Word = false
may_repeat Words = true
may_repeat Number = false
may_repeat Choice = false
may_repeat Top = false

-- it ends the options
abbrev pub is_top : Kind → Bool
is_top Flag = false
is_top Word = false
is_top Words = false
is_top Number = false
is_top Choice = false
is_top Top = true
