-- The keys of a turbo.json (Turborepo, "Configuring turbo.json"), each with the kind of its value and its place.
use Rattle.std.specs.Prelude.{ℕ, List, [], ◌∷◌, codes}
use Rattle.key_table.specs.declared.row.Kind.{Kind}
use Rattle.key_table.specs.declared.row.Kind.TheVariants.{Flag, Words, Choice, Top}
use Rattle.key_table.specs.Entry.{Entry as Key}
use Rattle.turbo_config.specs.declared.keys.TheConstants.{DEPENDS_ON, INPUTS, OUTPUTS, ENV, PASS, WITH, CACHE, PERSISTENT, INTERACTIVE, INTERRUPTIBLE, LOGS, ENV_MODE, GLOBAL_INPUTS, GLOBAL_ENV, GLOBAL_PASS, TASKS, PIPELINE, EXTENDS}

abbrev pub key : List ℕ → Kind → ℕ → Key
key name kind place = record { name = name; kind = kind; place = place }

-- of a task
abbrev pub task_keys : List Key
task_keys =
    key (codes "dependsOn") Words DEPENDS_ON
    ∷ key (codes "inputs") Words INPUTS
    ∷ key (codes "outputs") Words OUTPUTS
    ∷ key (codes "env") Words ENV
    ∷ key (codes "passThroughEnv") Words PASS
    ∷ key (codes "with") Words WITH
    ∷ key (codes "cache") Flag CACHE
    ∷ key (codes "persistent") Flag PERSISTENT
    ∷ key (codes "interactive") Flag INTERACTIVE
    ∷ key (codes "interruptible") Flag INTERRUPTIBLE
    ∷ key (codes "outputLogs") Choice LOGS
    ∷ []

-- at the top
abbrev pub top_keys : List Key
top_keys =
    key (codes "envMode") Choice ENV_MODE
    ∷ key (codes "globalDependencies") Words GLOBAL_INPUTS
    ∷ key (codes "globalEnv") Words GLOBAL_ENV
    ∷ key (codes "globalPassThroughEnv") Words GLOBAL_PASS
    ∷ key (codes "tasks") Top TASKS
    ∷ key (codes "pipeline") Top PIPELINE
    ∷ key (codes "extends") Top EXTENDS
    ∷ []
