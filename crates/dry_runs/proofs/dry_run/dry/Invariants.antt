use Rattle.std.proofs.Common.{◌≡◌, ◌+◌, ◌≤◌, ◌++◌}
use Rattle.std.specs.Prelude.{IsTrue}
use Rattle.cache_api.specs.Cache.{CacheReads, AllLast}
use Rattle.run_core.specs.Moves.{sum_below}
use Rattle.run_plan.specs.Costs.{task_cost}
use Rattle.run_plan.specs.DryPages.{dry_blocks}
use Rattle.task_devices.specs.Stops.{faults_of}
use Rattle.dry_runs.proofs.dry_run.dry.Given as goal

-- the blocks so far, and what their tasks cost
abbrev pub invariant-loop-place : goal.invariant-loop-place
invariant-loop-place g l = record {
  reads : CacheReads g.C.Cache.tells g.C.Cache.state g.C.Cache.cost g.C.Cache.stands
      g.C.Cache.shows g.C.Cache.moment g.C.Cache.left g.C.Cache.says l.initial.cache l.cache;
  probes : g.C.Cache.tells → (g.C.Cache.state l.cache).probes
      ≤ (g.C.Cache.state l.initial.cache).probes
      + sum_below (task_cost (g.C.Cache.cost l.initial.cache) l.plan) l.place;
  last : g.C.Cache.tells → AllLast (g.C.Cache.state l.cache);
  whole : IsTrue (g.C.Cache.state l.cache).whole;
  page : g.C.Cache.tells → g.K.Sink.tells → g.K.Sink.written l.out
      ≡ g.K.Sink.written l.initial.out
      ++ dry_blocks l.plan (g.C.Cache.state l.initial.cache).pairs l.place;
  faults : faults_of 0 (g.C.Cache.state l.cache).faults 0 (g.K.Sink.faults l.out)
      ≡ faults_of 0 (g.C.Cache.state l.initial.cache).faults 0 (g.K.Sink.faults l.initial.out);
}
