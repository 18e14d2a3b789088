use Rattle.std.proofs.Common.{◌≡◌, ◌-◌, length}
use Rattle.run_plan.specs.Stories.{Now}
use Rattle.run_board.specs.Boards.{IsBoard}
use Rattle.run_board.specs.Progress.{PageGoesOn, StaysOn, with_board}
use Rattle.run_board.proofs.showing.show_rest.Given as goal

abbrev pub invariant-rest : goal.invariant-rest
invariant-rest g l = record {
  board : IsBoard l.plan l.board;
  core : l.board.core ≡ l.initial.board.core;
  reports : l.board.reports ≡ l.initial.board.reports;
  stands : (now : Now)
      → StaysOn l.plan (with_board now l.initial.board) (with_board now l.board);
  page : g.K.Sink.tells → (now : Now)
      → PageGoesOn l.plan (with_board now l.initial.board) (with_board now l.board)
      (g.K.Sink.written l.initial.out) (g.K.Sink.written l.out);
  faults : g.K.Sink.faults l.out ≡ g.K.Sink.faults l.initial.out;
}

abbrev pub decreases-rest : goal.decreases-rest
decreases-rest g l = length l.plan.listing.parts - l.board.shown
