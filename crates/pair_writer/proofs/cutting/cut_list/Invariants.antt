use Rattle.std.proofs.Common.{◌≡◌, ◌∷◌, ◌++◌, List}
use Rattle.codes.specs.Codes.{word}
use Rattle.record_log.specs.Log.{device_of}
use Rattle.blob_pool.specs.Known.{OnlyReadsLog, known_in}
use Rattle.pair_frames.specs.Runs.Run.{Plain}
use Rattle.pair_frames.specs.Runs.{NamedBytes, file_runs, key_magic}
use Rattle.pair_writer.specs.Cuts.{IsCut}
use Rattle.pair_writer.proofs.Files.{IsListed}
use Rattle.pair_writer.proofs.cutting.cut_list.Given as goal

-- the members so far
abbrev pub invariant-loop-i : goal.invariant-loop-i
invariant-loop-i g l = record {
  log : OnlyReadsLog l.fn.log l.log;
  faults : g.S.StoreDevice.store_faults (device_of l.log) ≡ g.S.StoreDevice.store_faults (device_of l.fn.log);
  found : (files : List NamedBytes) × IsListed l.fn.key l.count l.i l.rest files
      × IsCut g.S.StoreDevice.tells (known_in l.fn.log) l.fn.staged l.staged l.fn.pieces l.pieces
      (Plain (key_magic ++ word l.count) ∷ file_runs files);
}
