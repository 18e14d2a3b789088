use Rattle.runner.proofs.DueFacts.{due-settles, kept-settles, last-settles}
use Rattle.runner.proofs.settling.settle_all.Goals as goal

pub returns-clause-due : goal.returns-clause-due
returns-clause-due g c =
    due-settles g.C.Cache.tells g.C.Cache.state g.C.Cache.cost g.C.Cache.moment g.C.Cache.left
    g.C.Cache.says
    g.C.Cache.stands g.C.Cache.shows c.args.cache.now c.settle.new.cache c.settle.result
    c.settle.ensures.settles c.settle.ensures.cause
    (λ told. g.met.C.Cache.within c.settle.new.cache told)

pub returns-clause-kept : goal.returns-clause-kept
returns-clause-kept g c told =
    kept-settles (g.C.Cache.state c.args.cache.now) (g.C.Cache.state c.settle.new.cache)
    c.settle.result (c.settle.ensures.settles.pairs told)

pub returns-clause-last : goal.returns-clause-last
returns-clause-last g c told =
    last-settles (g.C.Cache.state c.args.cache.now) (g.C.Cache.state c.settle.new.cache)
    c.settle.result (c.settle.ensures.settles.pairs told)
