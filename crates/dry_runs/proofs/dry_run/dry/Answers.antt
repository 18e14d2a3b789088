use Rattle.std.proofs.Common.{rules, ◌+◌, ◌<◌, length, arith}
use Rattle.cache_api.specs.Calls.{reads_then}
use Rattle.run_plan.specs.Costs.{task_cost}
use Rattle.dry_runs.proofs.CostFacts.{sum-longer, sum-next, task-same}
use Rattle.dry_runs.proofs.LastFacts.{reads-last}
use Rattle.dry_runs.proofs.PageFacts.{page-more}
use Rattle.dry_runs.proofs.dry_run.dry.Goals as goal

pub returns-in_err-put_block-clause-bounded : goal.returns-in_err-put_block-clause-bounded
returns-in_err-put_block-clause-bounded g c told =
    let old = c.loop-place.invariant in
    let plan = c.args.plan.now in
    let n = c.loop-place.place in
    let cost = g.C.Cache.cost c.args.cache.now in
    let below : n < length plan.listing.parts = search rules in
    let same = task-same cost (g.C.Cache.cost c.loop-place.cache) plan n
    (old.reads.cost_same told) in
    let next = sum-next (task_cost cost plan) n in
    let all = sum-longer (task_cost cost plan) (n + 1) (length plan.listing.parts)
    (omega (arith, below)) in
    omega (arith, old.probes told, c.put_block.ensures.probes told, same, next, all)

pub loop-place-preserved : goal.loop-place-preserved
loop-place-preserved g c =
    let old = c.loop-place.invariant in
    let plan = c.args.plan.now in
    let n = c.loop-place.place in
    record {
      reads = reads_then _ _ _ _ _ _ _ _ _ _ _ old.reads c.put_block.ensures.reads;
      probes = λ told.
          let cost = g.C.Cache.cost c.args.cache.now in
          let same = task-same cost (g.C.Cache.cost c.loop-place.cache) plan n
          (old.reads.cost_same told) in
          let next = sum-next (task_cost cost plan) n in
          omega (arith, old.probes told, c.put_block.ensures.probes told, same, next);
      last = λ told. reads-last g.C.Cache.tells g.C.Cache.state g.C.Cache.cost g.C.Cache.stands
          g.C.Cache.shows g.C.Cache.moment g.C.Cache.left g.C.Cache.says c.loop-place.cache
          c.put_block.new.cache c.put_block.ensures.reads told (old.last told);
      whole = search rules;
      page = λ told out. page-more plan _ _ n _ _ _ (c.in_ok-put_block.ensures.put told out)
          (old.reads.pairs told) (old.page told out);
      faults = search rules;
    }
