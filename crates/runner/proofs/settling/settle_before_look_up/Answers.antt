use Rattle.cache_api.specs.Keys.{text_of}
use Rattle.runner.proofs.AskFacts.{ok-more}
use Rattle.runner.proofs.DueFacts.{due-none, none-lacks}
use Rattle.runner.proofs.settling.settle_before_look_up.Goals as goal

pub returns-then-not-is_due-clause-due : goal.returns-then-not-is_due-clause-due
returns-then-not-is_due-clause-due g c =
    due-none g.C.Cache.tells g.C.Cache.state g.C.Cache.cost g.C.Cache.moment g.C.Cache.left
    g.C.Cache.says
    c.args.cache.now (λ told. g.met.C.Cache.within c.args.cache.now told)
    (λ told image left. g.met.C.Cache.at_rest c.args.cache.now image told c.requires left)

pub returns-clause-lacks : goal.returns-clause-lacks
returns-clause-lacks g c told =
    ok-more c.settle_all.result
    (λ last. none-lacks (g.C.Cache.state c.settle_all.new.cache) (text_of c.args.key.now) last)
    (c.settle_all.ensures.last told)
