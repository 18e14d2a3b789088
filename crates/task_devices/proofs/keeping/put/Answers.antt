use Rattle.std.proofs.Common.{[], ◌∷◌, ◌++◌}
use Rattle.cache_api.specs.Keys.{own_pair}
use Rattle.cache_api.specs.Pairs.{chosen}
use Rattle.task_devices.proofs.KeepFacts.{may_be_chosen, first_after, last_on}
use Rattle.task_devices.proofs.keeping.put.Goals as goal

pub returns-in-Ok-Stored-clause-lasts : goal.returns-in-Ok-Stored-clause-lasts
returns-in-Ok-Stored-clause-lasts g c told =
    let pair = own_pair c.args.key c.args.artifact in
    let puts = g.C.Cache.stores c.args.cache.now (pair ∷ []) in
    last_on g.C.Cache.state g.C.Cache.moment g.C.Cache.left g.C.Cache.says c.args.cache.now
    c.give.new.self c.give.result (chosen (pair ∷ []) puts)
    (g.met.C.Cache.within c.args.cache.now told) (c.give.ensures.lasting told)
    (c.give.ensures.pairs told) (c.give.ensures.left told)

pub returns-in-Ok-Full-clause-lasts : goal.returns-in-Ok-Full-clause-lasts
returns-in-Ok-Full-clause-lasts g c told =
    let pair = own_pair c.args.key c.args.artifact in
    let puts = g.C.Cache.stores c.args.cache.now (pair ∷ []) in
    last_on g.C.Cache.state g.C.Cache.moment g.C.Cache.left g.C.Cache.says c.args.cache.now
    c.give.new.self c.give.result (chosen (pair ∷ []) puts)
    (g.met.C.Cache.within c.args.cache.now told) (c.give.ensures.lasting told)
    (c.give.ensures.pairs told) (c.give.ensures.left told)

pub returns-in-Err-Failed-clause-lasts : goal.returns-in-Err-Failed-clause-lasts
returns-in-Err-Failed-clause-lasts g c told =
    let pair = own_pair c.args.key c.args.artifact in
    let puts = g.C.Cache.stores c.args.cache.now (pair ∷ []) in
    last_on g.C.Cache.state g.C.Cache.moment g.C.Cache.left g.C.Cache.says c.args.cache.now
    c.give.new.self c.give.result (chosen (pair ∷ []) puts)
    (g.met.C.Cache.within c.args.cache.now told) (c.give.ensures.lasting told)
    (c.give.ensures.pairs told) (c.give.ensures.left told)

pub returns-in-Err-Full-clause-lasts : goal.returns-in-Err-Full-clause-lasts
returns-in-Err-Full-clause-lasts g c told =
    let pair = own_pair c.args.key c.args.artifact in
    let puts = g.C.Cache.stores c.args.cache.now (pair ∷ []) in
    last_on g.C.Cache.state g.C.Cache.moment g.C.Cache.left g.C.Cache.says c.args.cache.now
    c.give.new.self c.give.result (chosen (pair ∷ []) puts)
    (g.met.C.Cache.within c.args.cache.now told) (c.give.ensures.lasting told)
    (c.give.ensures.pairs told) (c.give.ensures.left told)

pub returns-in-Err-Full-clause-failed : goal.returns-in-Err-Full-clause-failed
returns-in-Err-Full-clause-failed g c told =
    let old = g.C.Cache.state c.args.cache.now in
    let pair = own_pair c.args.key c.args.artifact in
    let puts = g.C.Cache.stores c.args.cache.now (pair ∷ []) in
    let added = chosen (pair ∷ []) puts in (
      old.pairs ++ added,
      may_be_chosen pair old.pairs puts,
      first_after c.give.result old.lasting old.pairs added
          (g.C.Cache.state c.give.new.self).pairs (g.met.C.Cache.within c.args.cache.now told)
          (c.give.ensures.pairs told),
    )
