-- Which pairs of the environment count as input of a task, and which are handed on to its command (Turborepo's `env`, `globalEnv`, `passThroughEnv`, `globalPassThroughEnv` and `envMode`; the names that every command gets are this project's own).
use Rattle.std.specs.Prelude.{◌≡◌, ℕ, Bool, true, not, ◌&&◌, ◌||◌, List, Option, None, is_some, if◌then◌else◌, bytes_eq, codes}
use Rattle.std.specs.Map.{lookup, keys_of}
use Rattle.std.specs.List.Sorted.{IsStrictlySortedBy}
use Rattle.rel_path.specs.Paths.{name_eq, name_cmp}
use Rattle.env_select.specs.declared.choose.EnvMode.{EnvMode}
use Rattle.env_select.specs.declared.choose.EnvMode.TheVariants.{Strict, Loose}
use Rattle.env_select.specs.Lists.{selects}

-- the value of the first pair of the name
abbrev pub first_value : List (List ℕ × List ℕ) → List ℕ → Option (List ℕ)
first_value pairs name = lookup (name_eq name) pairs

-- a pair has the name
abbrev pub has : List (List ℕ × List ℕ) → List ℕ → Bool
has pairs name = is_some (first_value pairs name)

-- the first value of a name that is wanted, and none of another
abbrev pub chosen : (List ℕ → Bool) → List (List ℕ × List ℕ) → List ℕ → Option (List ℕ)
chosen wanted env name = if wanted name then first_value env name else None

-- The pairs are those of the wanted names: their names ascend, each once, and each name has its first value in the environment where it is wanted and set, and does not occur elsewhere.
pub record IsChosen (wanted : List ℕ → Bool) (env pairs : List (List ℕ × List ℕ)) : Type 0 where
  pub ascending : IsStrictlySortedBy name_cmp (keys_of pairs)
  pub values : (name : List ℕ) → first_value pairs name ≡ chosen wanted env name

-- there is one such list of pairs
abbrev pub ChosenOnce : Type 0
ChosenOnce = (wanted : List ℕ → Bool) (env first second : List (List ℕ × List ℕ)) → IsChosen wanted env first → IsChosen wanted env second → first ≡ second

-- ---- the names that are wanted

-- hashed: what the task's list or the global one selects, each for itself
abbrev pub is_hashed : List (List ℕ) → List (List ℕ) → List ℕ → Bool
is_hashed task global name = selects task name || selects global name

-- what every command gets
abbrev pub is_always_given : List ℕ → Bool
is_always_given name =
    bytes_eq name (codes "PATH") || bytes_eq name (codes "HOME") || bytes_eq name (codes "USER")
    || bytes_eq name (codes "SHELL") || bytes_eq name (codes "TERM") || bytes_eq name (codes "LANG")
    || bytes_eq name (codes "TZ") || bytes_eq name (codes "TMPDIR") || bytes_eq name (codes "CI")

-- handed on: in strict mode what the task's list of names to pass through or the global one selects and what every command gets, in loose mode all
abbrev pub is_passed : EnvMode → List (List ℕ) → List (List ℕ) → List ℕ → Bool
is_passed Strict task global name = selects task name || selects global name || is_always_given name
is_passed Loose task global name = true

-- handed on, and not among the pairs that are taken
abbrev pub is_given : EnvMode → List (List ℕ) → List (List ℕ) → List (List ℕ × List ℕ) → List ℕ → Bool
is_given mode task global taken name = is_passed mode task global name && not (has taken name)
