use Rattle.std.proofs.Common.{◌≡◌, drop, map}
use Rattle.key_table.specs.Entry.{entry_named}
use Rattle.key_table.proofs.table.first_named.Given as goal

abbrev pub invariant-loop-row : goal.invariant-loop-row
invariant-loop-row g l =
    entry_named l.name (map g.R.AsEntry.entry (drop l.row-index l.rows)) ≡ entry_named l.name (map g.R.AsEntry.entry l.rows)
