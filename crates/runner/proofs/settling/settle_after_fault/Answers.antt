use Rattle.std.proofs.Common.{inr}
use Rattle.runner.proofs.DueFacts.{due-settled}
use Rattle.runner.proofs.settling.settle_after_fault.Goals as goal

pub returns : goal.returns
returns g c =
    let settle = c.settle.ensures in
    inr (record {
      due = due-settled g.C.Cache.tells g.C.Cache.state g.C.Cache.cost g.C.Cache.moment
          g.C.Cache.left g.C.Cache.says c.args.cache.now c.settle.new.self c.settle.result
          settle.pairs settle.lasting settle.left settle.probes settle.costs settle.keeps
          settle.cause (λ told. g.met.C.Cache.within c.settle.new.self told);
      later = settle.cause.later;
    })
