use Rattle.run_core.proofs.Reached.{at_start, at_move, at_end}
use Rattle.run_core.proofs.Turns.{turns-fewer, start-well, some-move}
use Rattle.run_core.proofs.Reports.{reported-done}
use Rattle.run_core.proofs.laws.run_law.Goals as goal

pub returns : goal.returns
returns c = record { first = at_start; move = at_move; goes = some-move; fewer = turns-fewer; start = start-well; over = at_end; reported = reported-done }
