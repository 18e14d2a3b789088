use Rattle.std.proofs.Common.{refl}
use Rattle.relay_store.proofs.Asked.{asked}
use Rattle.relay_store.proofs.part.Part.hit_file.Goals as goal

pub returns-clause-asked : goal.returns-clause-asked
returns-clause-asked g c =
    let x = c.hit_file.ensures in
    asked c.args.self.now _ c.in-Some.store c.hit_file.new.self c.hit_file.result c.in-Some.is
    refl refl x.reads x.whole x.answers x.cause
