use Rattle.std.proofs.Common.{refl}
use Rattle.cache_api.specs.Keys.{new_pairs}
use Rattle.relay_store.proofs.Asked.{put_in}
use Rattle.relay_store.proofs.part.Part.put_all.Goals as goal

pub returns : goal.returns
returns g c =
    let x = c.put_all.ensures in
    put_in c.args.self.now _ c.in-Some.store c.put_all.new.self (new_pairs c.args.pairs.now)
    c.put_all.result
    c.in-Some.is refl refl c.requires.fit x.outcome x.put x.frames x.pairs x.left x.hits x.keeps
    x.whole x.answers x.cause
