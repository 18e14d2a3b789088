use Rattle.std.proofs.Common.{◌≡◌, take}
use Rattle.record_log.specs.Frames.{text_of}
use Rattle.record_log.specs.Log.{device_of, frames_in}
use Rattle.blob_pool.specs.Known.{OnlyReadsLog}
use Rattle.artifact_reader.specs.Parts.{shown}
use Rattle.pair_reader.specs.Answers.{ReadsAtMost}
use Rattle.artifact_store.proofs.hits.read_spans.Given as goal

abbrev pub invariant-loop-span : goal.invariant-loop-span
invariant-loop-span g l = record {
  log : OnlyReadsLog l.fn.log l.log;
  faults : g.S.StoreDevice.store_faults (device_of l.log) ≡ g.S.StoreDevice.store_faults (device_of l.fn.log);
  few : ReadsAtMost l.span-index l.fn.log l.log;
  bytes : g.S.StoreDevice.tells
      → l.bytes.items ≡ shown (text_of (frames_in l.fn.log)) (take l.span-index l.spans);
}
