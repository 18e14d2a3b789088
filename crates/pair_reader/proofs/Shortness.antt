-- The text of a log's frames has fewer bytes than a `u64` counts.
use Rattle.std.proofs.Common.{ℕ, ◌<◌, ◌^◌, List, length, ap, arith, length-append}
use Rattle.codes.specs.Codes.{AreBytes}
use Rattle.store_dev.specs.declared.device.StoreDevice.{Ghosts}
use Rattle.record_log.specs.declared.log.Log.{Log}
use Rattle.record_log.specs.declared.mark.LogMark.{LogMark}
use Rattle.record_log.specs.Kept.{Front}
use Rattle.record_log.specs.Frames.{frames_of, text_of}
use Rattle.record_log.specs.Log.{device_of, frames_in, count_of}
use Rattle.record_log.proofs.Places.{told_text}

text_short : (bytes : List ℕ) (mark : LogMark) → AreBytes bytes → length bytes < 2 ^ 63
    → Front bytes mark → 0 < length (frames_of bytes)
    → length (text_of (frames_of bytes)) < 2 ^ 64
text_short bytes mark fits few front some =
    let t = told_text bytes mark fits front some in
    omega (arith, ap length t.is, length-append (text_of (frames_of bytes)) t.rest, few)

pub log_short : {S : Type 0} {G : Ghosts S} (log : Log S G) (number : ℕ) → G.tells
    → AreBytes (G.content (device_of log)) → length (G.content (device_of log)) < 2 ^ 63
    → number < count_of log → length (text_of (frames_in log)) < 2 ^ 64
log_short {G = G} log number told fits few known =
    let front = log.front told in
    text_short (G.content log.device) log.mark fits few front (omega (arith, known, front.few))
