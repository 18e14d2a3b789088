use Rattle.std.proofs.Common.{◌≡◌, length}
use Rattle.run_board.proofs.tables.Logs.new.Given as goal

abbrev pub invariant-loop : goal.invariant-loop
invariant-loop l = length l.items.items ≡ l.counter
