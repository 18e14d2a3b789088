use Rattle.std.proofs.Common.{◌≡◌, take}
use Rattle.input_entries.specs.Entries.{entries_of}
use Rattle.input_entries.proofs.entries.InputList.read.Given as goal

-- the globs of the texts so far
abbrev pub invariant-loop-text : goal.invariant-loop-text
invariant-loop-text l = l.globs.items ≡ entries_of (take l.text-index l.text-items)
