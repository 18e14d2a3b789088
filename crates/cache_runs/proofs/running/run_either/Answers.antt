-- A dry run leaves the pairs as they are.
use Rattle.std.proofs.Common.{◌≡◌, Some}
use Rattle.cache_api.specs.Moments.{leaves_more}
use Rattle.runner.specs.Answers.{IsFurther}
use Rattle.answers.specs.Answers.{counts_of}
use Rattle.answers.specs.Facts.{cause_of_run}
use Rattle.cache_runs.proofs.Further.{further_same}
use Rattle.cache_runs.proofs.running.run_either.Goals as goal

pub returns-then-is_dry-clause-cause : goal.returns-then-is_dry-clause-cause
returns-then-is_dry-clause-cause g c =
    let tree = (g.W.Tree.state c.args.world.now).faults in
    let start = (g.W.Spawner.runs c.args.world.now).faults in
    cause_of_run
    (counts_of tree (g.C.Cache.state c.args.cache.now).faults start
    (g.K.Sink.faults c.args.out.now))
    (counts_of tree (g.C.Cache.state c.run_dry.new.cache).faults start
    (g.K.Sink.faults c.run_dry.new.out))
    c.run_dry.result (c.run_dry.ensures.cause tree start)

pub returns-then-is_dry-clause-images : goal.returns-then-is_dry-clause-images
returns-then-is_dry-clause-images g c told =
    let cache = g.C.Cache.state c.args.cache.now in
    leaves_more g.C.Cache.moment g.C.Cache.left c.args.cache.now c.run_dry.new.cache
    (λ image. g.C.Cache.says cache.base image ≡ Some cache.pairs)
    (λ image. IsFurther cache.pairs (g.C.Cache.says cache.base image))
    (c.run_dry.ensures.left told) (further_same (g.C.Cache.says cache.base) cache.pairs)
