use Rattle.std.proofs.Common.{refl}
use Rattle.relay_store.proofs.Asked.{asked}
use Rattle.relay_store.proofs.part.Part.lookup.Goals as goal

pub returns-in-Some-2-clause-asked : goal.returns-in-Some-2-clause-asked
returns-in-Some-2-clause-asked g c =
    let x = c.in_ok-hit.ensures in
    asked c.args.self.now _ c.in-Some.store c.lookup_keyed.new.self _ c.in-Some.is refl refl
    x.reads x.whole x.answers (record { later = x.cause.later; counted = x.cause.counted })

pub returns-in-None-clause-asked : goal.returns-in-None-clause-asked
returns-in-None-clause-asked g c =
    let x = c.in_ok-hit.ensures in
    asked c.args.self.now _ c.in-Some.store c.lookup_keyed.new.self _ c.in-Some.is refl refl
    x.reads x.whole x.answers (record { later = x.cause.later; counted = x.cause.counted })
