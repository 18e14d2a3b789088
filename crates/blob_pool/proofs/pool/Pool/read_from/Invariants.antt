use Rattle.std.proofs.Common.{◌≡◌, ◌<◌, ℕ, length, take, get_or}
use Rattle.record_log.specs.Log.{device_of, frames_in, count_of}
use Rattle.blob_pool.specs.Known.{OnlyReadsLog, IsPoolOf, places_in, digests_in}
use Rattle.blob_pool.proofs.pool.Pool.read_from.Given as goal

abbrev pub invariant-loop-number : goal.invariant-loop-number
invariant-loop-number g l = record {
  log : OnlyReadsLog l.fn.log l.log;
  faults : g.S.StoreDevice.store_faults (device_of l.log) ≡ g.S.StoreDevice.store_faults (device_of l.fn.log);
  below : (i : ℕ) → i < length (places_in l.self) → get_or (places_in l.self) i 0 < count_of l.fn.log;
  even : length (digests_in l.self) ≡ length (places_in l.self);
  told : g.S.StoreDevice.tells → IsPoolOf l.self (take l.number (frames_in l.fn.log));
}
