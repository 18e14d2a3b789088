use Rattle.task_devices.proofs.KeepFacts.{last_none}
use Rattle.task_devices.proofs.keeping.keep.Goals as goal

pub returns-then-not-is_to_put-clause-lasts : goal.returns-then-not-is_to_put-clause-lasts
returns-then-not-is_to_put-clause-lasts g c told =
    last_none g.C.Cache.state g.C.Cache.moment g.C.Cache.left g.C.Cache.says c.args.cache.now
    (λ image here. g.met.C.Cache.at_rest c.args.cache.now image told c.requires.whole here)
