-- Which calls of a device in memory fail.
use Rattle.std.specs.Prelude.{◌≡◌, ◌↔◌, ◌+◌, ◌-◌, ◌^◌, min, Result, IsErrOf}
use Rattle.std.specs.List.{Contains}
use Rattle.tree_dev.specs.declared.error.DevErr.{DevErr}
use Rattle.tree_dev.specs.declared.error.DevErr.TheVariants.{Failed}
use Rattle.tree_dev.specs.declared.turns.Turns.{Turns}
use Rattle.tree_dev.specs.declared.memory.MemTree.{MemTree}
use Rattle.tree_dev.specs.declared.sink.MemSink.{MemSink}

-- the next call is one of those that fail
abbrev pub FailsNext : Turns → Type 0
FailsNext turns = Contains turns.fails.items turns.next

-- one call later; the number stands still at the last value of a u64
abbrev pub after : Turns → Turns
after turns = record turns { next = min (turns.next + 1) (2 ^ 64 - 1) }

-- the calls of a tree in memory
abbrev pub tree_turns : MemTree → Turns
tree_turns tree = tree.turns

-- the calls of a sink in memory
abbrev pub sink_turns : MemSink → Turns
sink_turns sink = sink.turns

-- the call fails exactly where its number is one of those that fail, and it is counted
pub record FailsAsTold {T : Type 0} (old new : Turns) (result : Result T DevErr) : Type 0 where
  pub fails : IsErrOf result Failed ↔ FailsNext old
  pub counted : new ≡ after old
