use Rattle.artifact_store.specs.Store.{device_of}
use Rattle.artifact_store.proofs.After.{cache_reads}
use Rattle.artifact_store.proofs.store.Store.lookup_seen.Goals as goal

pub returns-clause-reads : goal.returns-clause-reads
returns-clause-reads g c =
    cache_reads c.args.self.now c.search.new.self c.requires (g.met.S.StoreDevice.only_now (device_of c.args.self.now)) c.search.ensures.reads
