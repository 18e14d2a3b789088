use Rattle.std.proofs.Common.{take}
use Rattle.run_board.specs.Ahead.{HashesAhead, Learns}
use Rattle.run_board.specs.Boards.{IsBoard}
use Rattle.run_board.specs.Tables.{fingerprint_in}
use Rattle.run_board.proofs.board.Board.keep_prints.Given as goal

abbrev pub invariant-prints : goal.invariant-prints
invariant-prints l = record {
  board : IsBoard l.plan l.self;
  ahead : HashesAhead l.initial.self l.self;
  learned : Learns (fingerprint_in l.initial.self.fingerprints)
      (fingerprint_in l.self.fingerprints) (take l.i l.places);
}
