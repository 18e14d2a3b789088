use Rattle.std.proofs.Common.{◌≡◌, ◌≤◌, ◌-◌, take}
use Rattle.record_log.specs.Log.{device_of, frames_in, count_of}
use Rattle.blob_pool.specs.Known.{OnlyReadsLog}
use Rattle.pair_index.specs.Index.{IsIndexOf, FramesBelow, lengths_in}
use Rattle.pair_index.proofs.index.Index.read_from.Given as goal

-- the log was only read, and the pairs of the frames gone over are known
abbrev pub invariant-loop-next : goal.invariant-loop-next
invariant-loop-next g l = record {
  log : OnlyReadsLog l.fn.log l.log;
  faults : g.S.StoreDevice.store_faults (device_of l.log) ≡ g.S.StoreDevice.store_faults (device_of l.fn.log);
  inside : l.next ≤ count_of l.fn.log;
  below : FramesBelow l.self l.next;
  lengths : lengths_in l.self ≡ lengths_in l.fn.self;
  told : g.S.StoreDevice.tells → IsIndexOf l.self (take l.next (frames_in l.fn.log));
}

abbrev pub decreases-loop-next : goal.decreases-loop-next
decreases-loop-next g l = count_of l.fn.log - l.next
