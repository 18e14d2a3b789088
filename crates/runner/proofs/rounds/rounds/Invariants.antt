use Rattle.std.proofs.Common.{◌≡◌, ◌+◌, false, cond}
use Rattle.std.specs.Prelude.{IsTrue}
use Rattle.cache_api.specs.Cache.{AllLast}
use Rattle.run_core.specs.Core.{states}
use Rattle.run_core.specs.Moves.{turns_left}
use Rattle.run_plan.specs.Openings.{Opening, rules_of}
use Rattle.run_plan.specs.StoryLaws.{Stands}
use Rattle.task_devices.specs.Stops.{faults_of}
use Rattle.runner.specs.Answers.{LeavesSafe}
use Rattle.run_board.specs.Boards.{IsOver, IsUpToDate}
use Rattle.runner.specs.Costs.{Spends}
use Rattle.runner.specs.Halting.{CacheGoes, WorldGoes}
use Rattle.run_board.specs.Progress.{PageGoesOn, StaysOn, now_of}
use Rattle.runner.specs.Running.{InStep}
use Rattle.runner.proofs.rounds.rounds.Given as goal

abbrev pub invariant-turns : goal.invariant-turns
invariant-turns g l = record {
  current : IsUpToDate l.plan l.board;
  over : l.more ≡ false → IsOver l.plan l.board;
  last : g.C.Cache.tells → l.more ≡ false → AllLast (g.C.Cache.state l.cache);
  steps : InStep l.plan (states l.board.core) (g.W.Spawner.runs l.world);
  whole : IsTrue (g.C.Cache.state l.cache).whole;
  world : WorldGoes g.W.Tree.tells l.plan (g.W.Spawner.runs l.initial.world)
      (g.W.Spawner.runs l.world) (g.W.Tree.state l.initial.world) (g.W.Tree.state l.world);
  cache : CacheGoes g.C.Cache.tells g.C.Cache.state g.C.Cache.moment g.C.Cache.left g.C.Cache.says
      l.initial.cache l.cache;
  stands : g.W.Tree.tells → g.C.Cache.tells → StaysOn l.plan
      (now_of l.initial.board g.W.Spawner.effect (g.W.Spawner.runs l.initial.world)
      (g.W.Tree.state l.initial.world) (g.C.Cache.state l.initial.cache))
      (now_of l.board g.W.Spawner.effect (g.W.Spawner.runs l.world) (g.W.Tree.state l.world)
      (g.C.Cache.state l.cache));
  page : g.W.Tree.tells → g.C.Cache.tells → g.K.Sink.tells → PageGoesOn l.plan
      (now_of l.initial.board g.W.Spawner.effect (g.W.Spawner.runs l.initial.world)
      (g.W.Tree.state l.initial.world) (g.C.Cache.state l.initial.cache))
      (now_of l.board g.W.Spawner.effect (g.W.Spawner.runs l.world) (g.W.Tree.state l.world)
      (g.C.Cache.state l.cache))
      (g.K.Sink.written l.initial.out) (g.K.Sink.written l.out);
  left : g.W.Tree.tells → g.C.Cache.tells → (o : Opening) → Stands l.plan o
      (now_of l.initial.board g.W.Spawner.effect (g.W.Spawner.runs l.initial.world)
      (g.W.Tree.state l.initial.world) (g.C.Cache.state l.initial.cache))
      → LeavesSafe g.C.Cache.state g.C.Cache.moment g.C.Cache.left g.C.Cache.says l.plan o
      (g.W.Spawner.runs l.world).steps l.initial.cache l.cache;
  spends : g.W.Tree.tells → g.C.Cache.tells
      → (g.W.Spawner.runs l.world).steps ≡ (g.W.Spawner.runs l.initial.world).steps
      → AllLast (g.C.Cache.state l.initial.cache)
      → AllLast (g.C.Cache.state l.cache) × Spends l.plan g.C.Cache.state g.C.Cache.cost (states l.initial.board.core)
      (states l.board.core) l.initial.cache l.cache;
  faults : faults_of (g.W.Tree.state l.world).faults (g.C.Cache.state l.cache).faults
      (g.W.Spawner.runs l.world).faults (g.K.Sink.faults l.out)
      ≡ faults_of (g.W.Tree.state l.initial.world).faults (g.C.Cache.state l.initial.cache).faults
      (g.W.Spawner.runs l.initial.world).faults (g.K.Sink.faults l.initial.out);
}

abbrev pub decreases-turns : goal.decreases-turns
decreases-turns g l = turns_left (rules_of l.plan) (states l.board.core) + cond l.more 1 0
