use Rattle.std.proofs.Common.{◌≡◌, ◌-◌, length}
use Rattle.run_board.specs.Ahead.{HashesAhead}
use Rattle.run_board.specs.Boards.{IsBoard}
use Rattle.runner.proofs.hashing.hash_while_running.Given as goal

abbrev pub invariant-keys : goal.invariant-keys
invariant-keys g l = record {
  board : IsBoard l.plan l.board;
  hashed : HashesAhead l.initial.board l.board;
  runs : g.W.Spawner.runs l.world ≡ g.W.Spawner.runs l.initial.world;
  tree : g.W.Tree.state l.world ≡ g.W.Tree.state l.initial.world;
}

abbrev pub decreases-keys : goal.decreases-keys
decreases-keys g l = length l.plan.listing.parts - l.board.ahead
