use Rattle.std.proofs.Common.{refl, inl}
use Rattle.task_devices.proofs.KeepFacts.{same_first, last_none}
use Rattle.task_devices.proofs.keeping.store.Goals as goal

pub returns-in-Err-Shared-clause-lasts : goal.returns-in-Err-Shared-clause-lasts
returns-in-Err-Shared-clause-lasts g c told =
    last_none g.C.Cache.state g.C.Cache.moment g.C.Cache.left g.C.Cache.says c.args.cache.now
    (λ image here. g.met.C.Cache.at_rest c.args.cache.now image told c.requires.whole here)

pub returns-in-Err-TooLarge-clause-lasts : goal.returns-in-Err-TooLarge-clause-lasts
returns-in-Err-TooLarge-clause-lasts g c told =
    last_none g.C.Cache.state g.C.Cache.moment g.C.Cache.left g.C.Cache.says c.args.cache.now
    (λ image here. g.met.C.Cache.at_rest c.args.cache.now image told c.requires.whole here)

pub returns-in-Err-Failed-clause-failed : goal.returns-in-Err-Failed-clause-failed
returns-in-Err-Failed-clause-failed g c told store =
    let cache = g.C.Cache.state c.args.cache.now in
    (cache.pairs, inl refl, same_first cache.lasting cache.pairs cache.pairs refl)

pub returns-in-Err-Failed-clause-lasts : goal.returns-in-Err-Failed-clause-lasts
returns-in-Err-Failed-clause-lasts g c told =
    last_none g.C.Cache.state g.C.Cache.moment g.C.Cache.left g.C.Cache.says c.args.cache.now
    (λ image here. g.met.C.Cache.at_rest c.args.cache.now image told c.requires.whole here)

pub returns-clause-failed : goal.returns-clause-failed
returns-clause-failed g c told store =
    let cache = g.C.Cache.state c.args.cache.now in
    (cache.pairs, inl refl, same_first cache.lasting cache.pairs cache.pairs refl)

pub returns-clause-lasts : goal.returns-clause-lasts
returns-clause-lasts g c told =
    last_none g.C.Cache.state g.C.Cache.moment g.C.Cache.left g.C.Cache.says c.args.cache.now
    (λ image here. g.met.C.Cache.at_rest c.args.cache.now image told c.requires.whole here)
