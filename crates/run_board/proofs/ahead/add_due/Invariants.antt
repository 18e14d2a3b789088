use Rattle.std.proofs.Common.{◌≡◌}
use Rattle.run_board.specs.Ahead.{AddsDue}
use Rattle.run_board.specs.Tables.{fingerprint_in}
use Rattle.run_board.proofs.ahead.add_due.Given as goal

abbrev pub invariant-due : goal.invariant-due
invariant-due l = record {
  adds : AddsDue l.plan (fingerprint_in l.known) l.from l.next l.initial.places.items
      l.places.items;
  none : l.next ≡ l.from → l.places.items ≡ l.initial.places.items;
}
