use Rattle.std.proofs.Common.{refl}
use Rattle.artifact_store.specs.Store.{device_of}
use Rattle.artifact_store.proofs.After.{cache_reads}
use Rattle.artifact_store.proofs.store.Store.need.Goals as goal

pub returns-clause-reads : goal.returns-clause-reads
returns-clause-reads g c =
    cache_reads c.args.self.now _ c.requires (g.met.S.StoreDevice.only_now (device_of c.args.self.now))
    (record { log = c.need_of_pair.ensures.log; index = refl; generation = refl })

pub returns-clause-store : goal.returns-clause-store
returns-clause-store g c = record { log = c.need_of_pair.ensures.log; index = refl; generation = refl }
