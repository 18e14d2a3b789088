-- What a log knows of its device.
use Rattle.std.specs.Prelude.{◌≡◌, ◌≤◌, ℕ, ◌+◌, true, List, [], ◌++◌, length, take, drop, Ok}
use Rattle.store_dev.specs.Device.{Only}
use Rattle.record_log.specs.declared.kind.TheConstants.{GATE}
use Rattle.record_log.specs.declared.mark.LogMark.{LogMark}
use Rattle.record_log.specs.Kinds.{Entry, blobs, generation_of}
use Rattle.record_log.specs.Seats.{seats_from}
use Rattle.record_log.specs.Frames.{AtRest, frames_of, magic, opened, all_formed, reading}

-- what is known of frames: where each stands, where they end, how many hold contents, and their generation
pub record IsIndexOf (mark : LogMark) (es : List Entry) : Type 0 where
  pub seats : mark.seats.items ≡ seats_from GATE es
  pub end : mark.end ≡ GATE + length (opened es)
  pub contents : mark.contents ≡ blobs es
  pub generation : mark.generation ≡ generation_of es

-- how many frames are known
abbrev pub marked : LogMark → ℕ
marked mark = length mark.seats.items

-- the same of the first of these frames, as many as it has seats
abbrev pub IsMarkOf : LogMark → List Entry → Type 0
IsMarkOf mark es = IsIndexOf mark (take (length mark.seats.items) es)

-- while a log is whole: the bytes are its frames, at rest, and a crash leaves the bytes that there are
pub record Kept (bytes : List ℕ) (images : List ℕ → Type 0) (mark : LogMark) : Type 0 where
  pub rest : AtRest bytes (frames_of bytes) mark.end
  -- follows from `rest`, and stands here for the crates above
  pub read : reading bytes ≡ Ok (frames_of bytes)
  pub index : IsIndexOf mark (frames_of bytes)
  pub durable : Only bytes images

-- whole or not: the first frames are known
pub record Front (bytes : List ℕ) (mark : LogMark) : Type 0 where
  pub read : reading bytes ≡ Ok (frames_of bytes)
  pub few : length mark.seats.items ≤ length (frames_of bytes)
  pub index : IsMarkOf mark (frames_of bytes)

-- the frames found up to a gate: each of them stands behind an open gate
pub record IsIndex (bytes : List ℕ) (es : List Entry) (mark : LogMark) : Type 0 where
  pub split : bytes ≡ magic ++ (opened es ++ drop mark.end bytes)
  pub formed : all_formed [] es ≡ true
  pub index : IsIndexOf mark es
