use Rattle.std.proofs.lemmas.Result.{err_from_is_err_and}
use Rattle.cache_api.specs.Moments.{leaves_more}
use Rattle.cache_api.proofs.Firsts.{failed_one, part_of_one}
use Rattle.cache_api.proofs.cache.Cache.put.Goals as goal

pub returns-in_err-puts-clause-pairs : goal.returns-in_err-puts-clause-pairs
returns-in_err-puts-clause-pairs g c told =
    let e = c.in_err-puts.field-0.0 in
    let p = err_from_is_err_and c.from_residual.result c.from_residual.ensures.1 in
    rw (p.1, p.2, ← c.new-key.ensures) (failed_one e _ _ _ _ _ (g.met.Self.Cache.within c.args.self.now told) (c.in_err-puts.ensures.pairs told))

pub returns-in_err-puts-clause-left : goal.returns-in_err-puts-clause-left
returns-in_err-puts-clause-left g c told =
    rw (← c.new-key.ensures) (leaves_more g.Self.Cache.moment g.Self.Cache.left _ _ _ _ (c.put_all.ensures.left told)
    (λ image. part_of_one _ _ _ _ _ (g.met.Self.Cache.within c.args.self.now told)))

pub returns-in-Full-clause-left : goal.returns-in-Full-clause-left
returns-in-Full-clause-left g c told =
    rw (← c.new-key.ensures) (leaves_more g.Self.Cache.moment g.Self.Cache.left _ _ _ _ (c.put_all.ensures.left told)
    (λ image. part_of_one _ _ _ _ _ (g.met.Self.Cache.within c.args.self.now told)))

pub returns-clause-left : goal.returns-clause-left
returns-clause-left g c told =
    rw (← c.new-key.ensures) (leaves_more g.Self.Cache.moment g.Self.Cache.left _ _ _ _ (c.put_all.ensures.left told)
    (λ image. part_of_one _ _ _ _ _ (g.met.Self.Cache.within c.args.self.now told)))
