-- A scheduler as contracts see it.
use Rattle.std.specs.Prelude.{◌≡◌, ℕ, ◌<◌, Bool, false, List, [], length, slice_index_or}
use Rattle.std.specs.List.{AllByRecursion}
use Rattle.run_core.specs.declared.states.Mode.{Mode}
use Rattle.run_core.specs.declared.states.State.{State}
use Rattle.run_core.specs.declared.states.State.TheVariants.{Waiting}
use Rattle.run_core.specs.Greedy.{Rules}
use Rattle.run_core.specs.Machine.{States}

pub record Machine : Type 0 where
  pub deps : List (List ℕ)
  pub runs : List Bool
  pub width : ℕ
  pub mode : Mode
  pub states : List State

abbrev pub rules_in : List (List ℕ) → ℕ → Mode → Rules
rules_in deps width mode = record { size = length deps; deps = λ t. slice_index_or deps t []; width = width; mode = mode }

-- topological order: the dependencies of each task have lower numbers
abbrev pub IsTopological : List (List ℕ) → Type 0
IsTopological deps = (t : ℕ) → AllByRecursion (λ d. d < t) (slice_index_or deps t [])

-- what stays fixed
unfoldable pub rules : Machine → Rules
rules m = rules_in m.deps m.width m.mode

-- the state of each task; what is no task waits
abbrev pub states_in : List State → States
states_in states t = slice_index_or states t Waiting

unfoldable pub states : Machine → States
states m = states_in m.states

-- whether a task has a command to run
unfoldable pub has_command : Machine → ℕ → Bool
has_command m t = slice_index_or m.runs t false

-- what a call leaves as it is
pub record Keeps (old new : Machine) : Type 0 where
  pub rules : rules new ≡ rules old
  pub commands : has_command new ≡ has_command old
