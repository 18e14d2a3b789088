use Rattle.std.proofs.Common.{◌≡◌, ◌≤◌, ◌-◌, take}
use Rattle.codes.specs.Codes.{Each}
use Rattle.cache_api.specs.Cache.{ArePut}
use Rattle.cache_api.specs.Keys.{new_pairs}
use Rattle.record_log.specs.Log.{device_of}
use Rattle.blob_pool.specs.Known.{OnlyReadsLog, known_in}
use Rattle.pair_frames.specs.Laws.{AreTexts}
use Rattle.pair_writer.specs.Staged.{taken}
use Rattle.pair_writer.proofs.Offers.{AreOffered}
use Rattle.pair_writer.proofs.putting.stage_all.Given as goal

-- the pairs so far
abbrev pub invariant-loop-place : goal.invariant-loop-place
invariant-loop-place g l = record {
  log : OnlyReadsLog l.fn.log l.log;
  faults : g.S.StoreDevice.store_faults (device_of l.log) ≡ g.S.StoreDevice.store_faults (device_of l.fn.log);
  fits : taken l.staged ≤ l.room;
  offered : g.S.StoreDevice.tells → AreOffered l.room (known_in l.fn.log) l.staged (new_pairs (take l.place l.pairs)) l.puts;
  texts : Each AreTexts (new_pairs (take l.place l.pairs));
  full : ArePut (l.room - taken l.staged) (new_pairs (take l.place l.pairs)) l.puts;
}
