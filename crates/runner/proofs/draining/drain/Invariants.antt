use Rattle.std.proofs.Common.{◌≡◌, ◌≤◌, ℕ, List}
use Rattle.cache_api.specs.Pairs.{Pair}
use Rattle.run_plan.specs.Openings.{Opening}
use Rattle.run_plan.specs.Stories.{Now}
use Rattle.run_plan.specs.StoryLaws.{Stands}
use Rattle.runner.specs.Halting.{HaltsAt, WorldGoes}
use Rattle.runner.proofs.DrainFacts.{Waited}
use Rattle.runner.proofs.draining.drain.Given as goal

abbrev pub invariant-waits : goal.invariant-waits
invariant-waits g l = record {
  world : WorldGoes g.W.Tree.tells l.plan (g.W.Spawner.runs l.initial.world)
      (g.W.Spawner.runs l.world) (g.W.Tree.state l.initial.world) (g.W.Tree.state l.world);
  stays : g.W.Tree.tells → (o : Opening) (now : Now) (least : ℕ) (pairs : List Pair) (room : ℕ)
      → Stands l.plan o now → HaltsAt l.plan o now least (g.W.Spawner.runs l.initial.world)
      (g.W.Tree.state l.initial.world).files pairs room
      → HaltsAt l.plan o now least (g.W.Spawner.runs l.world) (g.W.Tree.state l.world).files pairs
      room;
  waited : g.W.Tree.tells
      → Waited (g.W.Spawner.runs l.initial.world) (g.W.Spawner.runs l.world);
  tree : (g.W.Tree.state l.world).faults ≡ (g.W.Tree.state l.initial.world).faults;
  later : (g.W.Spawner.runs l.initial.world).faults ≤ (g.W.Spawner.runs l.world).faults;
}

abbrev pub decreases-waits : goal.decreases-waits
decreases-waits g l = (g.W.Spawner.runs l.world).count
