-- A scheduler from within.
use Rattle.std.specs.Prelude.{◌≡◌, ℕ, ◌^◌, ◌<◌, ◌≤◌, false, length}
use Rattle.run_core.specs.declared.scheduler.Core.TheInside.{Inside}
use Rattle.run_core.specs.Greedy.{Rules, AreLower}
use Rattle.run_core.specs.Core.{Machine, rules_in, states_in}
use Rattle.run_core.specs.Sets.{has}
use Rattle.run_core.specs.Tables.{Mirrors, Agree}

abbrev pub machine : Inside → Machine
machine s = record { deps = s.deps.items; runs = s.commands.items; width = s.width; mode = s.mode; states = s.states.items }

abbrev pub rules_of : Inside → Rules
rules_of s = rules_in s.deps.items s.width s.mode

pub record IsCore (s : Inside) : Type 0 where
  pub few : length s.deps.items < 2 ^ 32
  pub wide : 0 < s.width
  pub lower : AreLower (rules_of s)
  pub state_count : length s.states.items ≡ length s.deps.items
  pub dependent_count : length s.dependents.items ≡ length s.deps.items
  pub unmet_count : length s.unmet.items ≡ length s.deps.items
  pub ready_room : length s.deps.items ≤ length s.ready
  pub missed_room : length s.deps.items ≤ length s.missed
  pub pending_room : length s.deps.items ≤ length s.pending
  pub quiet : (u : ℕ) → has s.pending u ≡ false
  pub mirrors : Mirrors (rules_of s) s.dependents.items
  pub agree : Agree (rules_of s) (states_in s.states.items) s.unmet.items s.ready s.missed s.running s.failed
