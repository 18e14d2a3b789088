-- What the definitions settle, law by law.
use Rattle.std.specs.Prelude.{◌≡◌, ◌≢◌, ◌<◌, ◌≤◌, ℕ, ◌+◌, ◌-◌, true, false, List, [], ◌∷◌, ◌++◌, length, get_or, None}
use Rattle.std.specs.Int.{w64}
use Rattle.codes.specs.Codes.{AreBytes, Each}
use Rattle.cache_api.specs.Artifacts.{Artifact, artifact_text, IsTold}
use Rattle.cache_api.specs.Pairs.{Pair}
use Rattle.cache_api.specs.Cache.{ample}
use Rattle.record_log.specs.declared.kind.TheConstants.{CONTENT, LONG_RECORD}
use Rattle.record_log.specs.Kinds.{Entry, limit_of}
use Rattle.record_log.specs.Pieces.{Piece, RecordFits, record_text}
use Rattle.record_log.specs.Pieces.Piece.{Literal, Content}
use Rattle.record_log.specs.Frames.{opened, all_formed}
use Rattle.record_log.specs.Batch.{AllKnown, EachWithin}
use Rattle.blob_pool.specs.Contents.{contents_of}
use Rattle.blob_pool.specs.Pool.{blob, first_of}
use Rattle.pair_frames.specs.Runs.{flat, key_runs, value_runs, artifact_runs}
use Rattle.pair_frames.specs.Pairs.{pairs_from, pairs_in, HoldNoPair}
use Rattle.pair_frames.specs.Puts.{put_record, put_frames, put_size, room_behind, frames_behind, fit, added, kept}

-- ---- texts as runs

-- the runs of a text are all of it, and an artifact's are its log and its files
pub record RunsLaw : Type 0 where
  pub key : (text : List ℕ) → AreBytes text → flat (key_runs text) ≡ text
  pub value : (text : List ℕ) → AreBytes text → flat (value_runs text) ≡ text
  pub artifact : (a : Artifact) → IsTold a → value_runs (artifact_text a) ≡ artifact_runs a

-- ---- one pair

pub record AreTexts (pair : Pair) : Type 0 where
  pub key : AreBytes pair.0
  pub value : AreBytes pair.1

-- the numbers and lengths of its record fit in eight bytes, and so does the length of its text
pub record IsWritable (fs : List Entry) (pair : Pair) : Type 0 where
  pub fits : RecordFits (limit_of LONG_RECORD) (put_record fs pair)
  pub short : length (record_text w64 (put_record fs pair)) < limit_of LONG_RECORD

-- no literal piece is empty, and no two are neighbours
abbrev pub IsMaximal : List Piece → Type 0
IsMaximal [] = Unit {0}
IsMaximal (Content number ∷ pieces) = IsMaximal pieces
IsMaximal (Literal bytes ∷ []) = bytes ≢ []
IsMaximal (Literal bytes ∷ Content number ∷ pieces) = (bytes ≢ []) × IsMaximal pieces
IsMaximal (Literal bytes ∷ Literal others ∷ pieces) = ⊥

-- where the frame is of kind 2, it keeps bytes that none before it keeps
abbrev pub IsNew : List Entry → Entry → Type 0
IsNew before e =
    e.kind ≡ CONTENT → (bytes : List ℕ) × (e ≡ blob bytes) × (first_of before bytes ≡ None)

-- each of them is new behind those before it
abbrev pub AreNew : List Entry → List Entry → Type 0
AreNew before [] = Unit {0}
AreNew before (e ∷ es) = IsNew before e × AreNew (before ++ e ∷ []) es

-- frames that may be appended behind these
pub record MayFollow (fs gs : List Entry) : Type 0 where
  pub formed : all_formed fs gs ≡ true
  pub known : AllKnown gs
  pub short : EachWithin gs

-- The frames of a pair stand for it and change no other, and may be appended. They take little more
-- than twice what the pair has, keep nothing twice, and their record is cut no finer than it has to
-- be. Where all frames together take less than 2^64 bytes, the record can be written.
pub record PutLaw : Type 0 where
  pub pairs : (fs : List Entry) (pair : Pair) → AreTexts pair → IsWritable fs pair
      → pairs_in (fs ++ put_frames fs pair) ≡ pairs_in fs ++ pair ∷ []
  pub follow : (fs : List Entry) (pair : Pair) → IsWritable fs pair
      → MayFollow fs (put_frames fs pair)
  pub size : (fs : List Entry) (pair : Pair) → AreTexts pair → put_size fs pair ≤ ample pair
  pub key_maximal : (fs : List Entry) (pair : Pair) → IsMaximal (put_record fs pair).0
  pub value_maximal : (fs : List Entry) (pair : Pair) → IsMaximal (put_record fs pair).1
  pub once : (fs : List Entry) (pair : Pair) → AreNew fs (put_frames fs pair)
  pub writable : (fs : List Entry) (pair : Pair)
      → length (opened fs) + put_size fs pair < limit_of LONG_RECORD → IsWritable fs pair

-- ---- frames behind frames

-- What frames stand for behind others is said by the contents of those. So the pairs that there are
-- stay, and contents and generations add none.
pub record PairsLaw : Type 0 where
  pub append : (contents : List (List ℕ)) (fs gs : List Entry)
      → pairs_from contents (fs ++ gs) ≡ pairs_from contents fs
      ++ pairs_from (contents ++ contents_of fs) gs
  pub stay : (fs gs : List Entry)
      → pairs_in (fs ++ gs) ≡ pairs_in fs ++ pairs_from (contents_of fs) gs
  pub none : (fs gs : List Entry) → HoldNoPair gs → pairs_in (fs ++ gs) ≡ pairs_in fs

-- ---- several pairs

-- the texts of each are bytes, and where it fits, its record can be written
abbrev pub AllPut : ℕ → List Entry → List Pair → Type 0
AllPut room fs [] = Unit {0}
AllPut room fs (pair ∷ pairs) =
    AreTexts pair × (put_size fs pair ≤ room → IsWritable fs pair)
    × AllPut (room_behind room fs pair) (frames_behind room fs pair) pairs

-- The frames of those that fit stand for them and change no others, may be appended, and take no
-- more than the room. Where a pair does not fit, less is left at the end than is enough for it.
-- Where all frames together take less than 2^64 bytes, the records can be written.
pub record SeveralLaw : Type 0 where
  pub pairs : (room : ℕ) (fs : List Entry) (pairs : List Pair) → AllPut room fs pairs
      → pairs_in (fs ++ added room fs pairs) ≡ pairs_in fs ++ kept (fit room fs pairs) pairs
  pub follow : (room : ℕ) (fs : List Entry) (pairs : List Pair) → AllPut room fs pairs
      → MayFollow fs (added room fs pairs)
  pub size : (room : ℕ) (fs : List Entry) (pairs : List Pair)
      → length (opened (added room fs pairs)) ≤ room
  pub even : (room : ℕ) (fs : List Entry) (pairs : List Pair)
      → length (fit room fs pairs) ≡ length pairs
  pub full : (room : ℕ) (fs : List Entry) (pairs : List Pair) → Each AreTexts pairs
      → (i : ℕ) (d : Pair)
      → get_or (fit room fs pairs) i true ≡ false
      → room - length (opened (added room fs pairs)) < ample (get_or pairs i d)
  pub writable : (room : ℕ) (fs : List Entry) (pairs : List Pair) → Each AreTexts pairs
      → length (opened fs) + room < limit_of LONG_RECORD → AllPut room fs pairs
