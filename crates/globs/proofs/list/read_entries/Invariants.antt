use Rattle.std.proofs.Common.{◌≡◌, drop, take}
use Rattle.globs.specs.Lists.{list_fault}
use Rattle.globs.specs.Entries.{entries_of}
use Rattle.globs.proofs.list.read_entries.Given as goal

-- the entries so far, and no fault
abbrev pub invariant-loop-index : goal.invariant-loop-index
invariant-loop-index l = (l.entries.items ≡ entries_of (take l.index l.texts)) × (list_fault 0 l.texts ≡ list_fault l.index (drop l.index l.texts))
