use Rattle.std.proofs.Common.{refl}
use Rattle.relay_store.proofs.Asked.{asked}
use Rattle.relay_store.proofs.part.Part.hit_log.Goals as goal

pub returns-clause-asked : goal.returns-clause-asked
returns-clause-asked g c =
    let x = c.hit_log.ensures in
    asked c.args.self.now _ c.in-Some.store c.hit_log.new.self c.hit_log.result c.in-Some.is refl
    refl x.reads x.whole x.answers x.cause
