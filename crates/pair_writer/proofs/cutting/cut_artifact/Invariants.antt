use Rattle.std.proofs.Common.{◌≡◌, ◌∷◌, ◌++◌, length, map, take}
use Rattle.codes.specs.Codes.{str, word, IsShort, Each, AreBoth}
use Rattle.listing.specs.KeyText.{PathFits}
use Rattle.record_log.specs.Log.{device_of}
use Rattle.blob_pool.specs.Known.{OnlyReadsLog, known_in}
use Rattle.pair_frames.specs.Runs.Run.{Plain}
use Rattle.pair_frames.specs.Runs.{file_runs, named_file}
use Rattle.pair_writer.specs.Cuts.{IsCut}
use Rattle.pair_writer.proofs.cutting.cut_artifact.Given as goal

-- the files so far
abbrev pub invariant-loop-place : goal.invariant-loop-place
invariant-loop-place g l = record {
  log : OnlyReadsLog l.fn.log l.log;
  faults : g.S.StoreDevice.store_faults (device_of l.log) ≡ g.S.StoreDevice.store_faults (device_of l.fn.log);
  cut : IsCut g.S.StoreDevice.tells (known_in l.fn.log) l.fn.staged l.staged l.fn.pieces l.pieces
      (Plain (str l.artifact.log ++ word (length l.files))
      ∷ file_runs (map named_file (take l.place l.files)));
  each : Each (AreBoth PathFits IsShort) (take l.place l.files);
}
