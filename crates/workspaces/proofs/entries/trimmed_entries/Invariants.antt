use Rattle.std.proofs.Common.{◌≡◌, ◌++◌, map, drop}
use Rattle.workspaces.specs.Entries.{trimmed}
use Rattle.workspaces.proofs.entries.trimmed_entries.Given as goal

-- the globs so far, and those of the entries that are left
abbrev pub invariant-loop-entry : goal.invariant-loop-entry
invariant-loop-entry l = l.globs ++ map trimmed (drop l.entry-index l.entries) ≡ map trimmed l.entries
