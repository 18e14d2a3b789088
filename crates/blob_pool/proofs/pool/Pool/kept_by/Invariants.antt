use Rattle.std.proofs.Common.{◌≡◌, ◌<◌, ℕ}
use Rattle.std.specs.Prelude.{IfSome}
use Rattle.codes.specs.Views.{found_as}
use Rattle.record_log.specs.Log.{device_of}
use Rattle.blob_pool.specs.Known.{OnlyReadsLog, known_in, count_in, digests_in}
use Rattle.blob_pool.proofs.Search.{IsSearched, left}
use Rattle.blob_pool.proofs.pool.Pool.kept_by.Given as goal

abbrev pub invariant-loop-last : goal.invariant-loop-last
invariant-loop-last g l = record {
  log : OnlyReadsLog l.fn.log l.log;
  faults : g.S.StoreDevice.store_faults (device_of l.log) ≡ g.S.StoreDevice.store_faults (device_of l.fn.log);
  inside : IfSome l.found (λ id. id.number < count_in l.fn.self);
  searched : (limit : ℕ) × IsSearched g.S.StoreDevice.tells (digests_in l.fn.self) (known_in l.fn.log) l.fn.digest l.fn.bytes l.last (found_as (λ id. id.number) l.found) limit;
}

abbrev pub decreases-loop-last : goal.decreases-loop-last
decreases-loop-last g l = left l.last
