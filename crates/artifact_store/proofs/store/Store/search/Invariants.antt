use Rattle.std.proofs.Common.{◌≡◌}
use Rattle.cache_api.specs.Keys.{text_of}
use Rattle.record_log.specs.Log.{probes_of}
use Rattle.artifact_store.specs.Store.{device_of, frames_of, OnlyReadsStore}
use Rattle.artifact_store.proofs.Looking.{behind, IsMarked, IsLooked}
use Rattle.artifact_store.proofs.store.Store.search.Given as goal

-- the store was only read, and all places behind this one were looked at
abbrev pub invariant-loop-last : goal.invariant-loop-last
invariant-loop-last g l = record {
  reads : OnlyReadsStore l.fn.self l.self;
  faults : g.S.StoreDevice.store_faults (device_of l.self) ≡ g.S.StoreDevice.store_faults (device_of l.fn.self);
  marked : IsMarked l.by_print l.fn.self.index.keys (text_of l.key) l.last;
  looked : g.S.StoreDevice.tells → IsLooked l.fn.self.index.keys (frames_of l.fn.self) l.by_print
      (text_of l.key) l.outs l.seen (probes_of l.fn.self.log) (probes_of l.self.log) l.last;
}

abbrev pub decreases-loop-last : goal.decreases-loop-last
decreases-loop-last g l = behind l.last
