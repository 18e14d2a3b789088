use Rattle.runner.proofs.DueFacts.{due-none}
use Rattle.runner.proofs.settling.settle_before_wait.Goals as goal

pub returns-then-has_ended-clause-due : goal.returns-then-has_ended-clause-due
returns-then-has_ended-clause-due g c =
    due-none g.C.Cache.tells g.C.Cache.state g.C.Cache.cost g.C.Cache.moment g.C.Cache.left
    g.C.Cache.says
    c.args.cache.now (λ told. g.met.C.Cache.within c.args.cache.now told)
    (λ told image left. g.met.C.Cache.at_rest c.args.cache.now image told c.requires left)
