-- A world in memory: which of its calls fail, and which command ends at a wait.
use Rattle.std.specs.Prelude.{◌≡◌, ◌↔◌, ◌⊎◌, ◌<◌, ◌+◌, ◌-◌, ◌^◌, ℕ, min, List, length, get_or, Result, IfOk, IsErrOf}
use Rattle.std.specs.List.{remove}
use Rattle.rel_path.specs.Limits.{log_limit}
use Rattle.tree_dev.specs.Memory.{state_of as tree_state}
use Rattle.tree_dev.specs.Tree.{TreeState}
use Rattle.tree_dev.specs.Turns.{FailsNext, after, tree_turns}
use Rattle.tree_dev.specs.declared.error.DevErr.{DevErr}
use Rattle.tree_dev.specs.declared.error.DevErr.TheVariants.{Failed}
use Rattle.tree_dev.specs.declared.turns.Turns.{Turns}
use Rattle.spawn_dev.specs.Progress.{held_at, places_in}
use Rattle.spawn_dev.specs.Spawn.{Runs}
use Rattle.spawn_dev.specs.World.{ends_at, runs_in}
use Rattle.spawn_dev.specs.declared.book.Rule.{Rule}
use Rattle.spawn_dev.specs.declared.command.Ended.{Ended}
use Rattle.spawn_dev.specs.declared.world.MemWorld.{MemWorld}

-- what runs, after these steps
abbrev pub runs_of : MemWorld → Runs (List Rule)
runs_of w = runs_in w.book w.progress.running.items w.progress.steps.items w.faults

-- the files, of which those may change that a running command owns
abbrev pub state_of : MemWorld → TreeState (Runs (List Rule))
state_of w = record {
  files = (tree_state w.tree).files;
  held = held_at w.progress.running.items;
  rest = runs_of w;
  reach = (tree_state w.tree).reach;
  faults = (tree_state w.tree).faults;
}

-- all its calls in turn, of which some fail
abbrev pub turns_of : MemWorld → Turns
turns_of w = tree_turns w.tree

-- the places of those that run, in order of start
abbrev pub order_of : MemWorld → List ℕ
order_of w = places_in w.progress.running.items

-- what says for each wait which command ends, and how many waits there were
abbrev pub ends_of : MemWorld → List ℕ
ends_of w = w.ends.items

abbrev pub waits_of : MemWorld → ℕ
waits_of w = w.waits

-- which one ends next, in order of start, and its place
abbrev pub next_index : MemWorld → ℕ
next_index w = ends_at (ends_of w) (waits_of w) (length (order_of w))

abbrev pub next_end : MemWorld → ℕ
next_end w = get_or (order_of w) (next_index w) 0

-- the log of that one is over the limit
abbrev pub IsTooLong : MemWorld → Type 0
IsTooLong w = log_limit < length ((runs_of w).will (next_end w)).log

-- A wait ends the command that is told, whatever it answers. It fails exactly where its number is one of those that
-- fail, or that command's log is over the limit, and leaves the files then.
pub record WaitsAsTold (old new : MemWorld) (result : Result Ended DevErr) : Type 0 where
  pub fails : IsErrOf result Failed ↔ (FailsNext (turns_of old) ⊎ IsTooLong old)
  pub counted : turns_of new ≡ after (turns_of old)
  pub ends : IfOk result (λ ended. ended.place ≡ next_end old)
  pub left : order_of new ≡ remove (order_of old) (next_index old)
  pub waited : waits_of new ≡ min (waits_of old + 1) (2 ^ 64 - 1)
  pub told : ends_of new ≡ ends_of old
  pub unwritten : IsErrOf result Failed → (state_of new).files ≡ (state_of old).files

-- no wait was made
pub record KeepsWaits (old new : MemWorld) : Type 0 where
  pub waited : waits_of new ≡ waits_of old
  pub told : ends_of new ≡ ends_of old

-- what runs does so in the same order
pub record KeepsOrder (old new : MemWorld) : Type 0 where
  pub order : order_of new ≡ order_of old
  pub waits : KeepsWaits old new
