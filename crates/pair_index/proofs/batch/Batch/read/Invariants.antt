use Rattle.std.proofs.Common.{◌≡◌}
use Rattle.record_log.specs.Log.{device_of, frames_in}
use Rattle.blob_pool.specs.Known.{OnlyReadsLog}
use Rattle.pair_index.specs.Batch.{IsBatchOf, NumbersBelow}
use Rattle.pair_index.proofs.batch.Batch.read.Given as goal

-- the log was only read, and the pairs of the frames gone over are in the batch
abbrev pub invariant-loop-number : goal.invariant-loop-number
invariant-loop-number g l = record {
  log : OnlyReadsLog l.fn.log l.log;
  faults : g.S.StoreDevice.store_faults (device_of l.log) ≡ g.S.StoreDevice.store_faults (device_of l.fn.log);
  next : l.batch.next ≡ l._number;
  below : NumbersBelow l.batch;
  told : g.S.StoreDevice.tells → IsBatchOf l.lengths (frames_in l.fn.log) l.first l.batch;
}
