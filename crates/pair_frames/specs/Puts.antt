-- The frames as which a pair is put: a frame for each content that no frame keeps yet, and then a
-- record, in which each content is a piece that names the first frame that keeps it, and all other
-- bytes stand in literal pieces.
use Rattle.std.specs.Prelude.{ℕ, ◌-◌, Bool, true, false, nat_le, if◌then◌else◌, unwrap_or, List, [], ◌∷◌, ◌++◌, length}
use Rattle.std.specs.Int.{w64}
use Rattle.sha2.specs.Sha256.{sha256}
use Rattle.cache_api.specs.Pairs.{Pair}
use Rattle.record_log.specs.declared.kind.TheConstants.{LONG_RECORD}
use Rattle.record_log.specs.Kinds.{Entry, entry}
use Rattle.record_log.specs.Pieces.{Piece, Record, record_text}
use Rattle.record_log.specs.Pieces.Piece.{Literal, Content}
use Rattle.record_log.specs.Frames.{opened}
use Rattle.blob_pool.specs.Pool.{first_of, missing}
use Rattle.pair_frames.specs.Runs.{Run, contents_in, key_runs, value_runs}
use Rattle.pair_frames.specs.Runs.Run.{Plain, Whole}

-- a literal piece with these bytes, unless there are none
abbrev pub literal_before : List ℕ → List Piece → List Piece
literal_before [] pieces = pieces
literal_before (byte ∷ bytes) pieces = Literal (byte ∷ bytes) ∷ pieces

-- the piece of a content that frames keep
abbrev pub named : List Entry → List ℕ → Piece
named fs bytes = Content (unwrap_or (first_of fs bytes) 0)

-- the pieces of runs behind bytes that are in no piece yet
abbrev pub pieces_from : List Entry → List ℕ → List Run → List Piece
pieces_from fs before [] = literal_before before []
pieces_from fs before (Plain bytes ∷ runs) = pieces_from fs (before ++ bytes) runs
pieces_from fs before (Whole bytes ∷ runs) =
    literal_before before (named fs bytes ∷ pieces_from fs [] runs)

-- a frame for each of these contents in turn that no earlier frame keeps
abbrev pub blobs_for : List Entry → List (List ℕ) → List Entry
blobs_for fs [] = []
blobs_for fs (bytes ∷ contents) = missing fs bytes ++ blobs_for (fs ++ missing fs bytes) contents

-- the contents of a pair, those of its key first
abbrev pub pair_contents : Pair → List (List ℕ)
pair_contents pair = contents_in (key_runs pair.0) ++ contents_in (value_runs pair.1)

abbrev pub pair_blobs : List Entry → Pair → List Entry
pair_blobs fs pair = blobs_for fs (pair_contents pair)

-- the record of a pair, where its contents are kept
abbrev pub record_for : List Entry → Pair → Record
record_for fs pair = (pieces_from fs [] (key_runs pair.0), pieces_from fs [] (value_runs pair.1))

-- its frame; no reader trusts the digest
abbrev pub record_frame : List Entry → Pair → Entry
record_frame fs pair = entry LONG_RECORD (sha256 pair.0) (record_text w64 (record_for fs pair))

-- its record behind the contents that are added for it
abbrev pub put_record : List Entry → Pair → Record
put_record fs pair = record_for (fs ++ pair_blobs fs pair) pair

-- the frames of a pair behind those that there are
unfoldable pub put_frames : List Entry → Pair → List Entry
put_frames fs pair = pair_blobs fs pair ++ record_frame (fs ++ pair_blobs fs pair) pair ∷ []

-- what they take in a store, each with a gate
abbrev pub put_size : List Entry → Pair → ℕ
put_size fs pair = length (opened (put_frames fs pair))

-- ---- several pairs, one after another

-- the room that is left behind a pair
abbrev pub room_behind : ℕ → List Entry → Pair → ℕ
room_behind room fs pair = if nat_le (put_size fs pair) room then room - put_size fs pair else room

-- and the frames that stand then
abbrev pub frames_behind : ℕ → List Entry → Pair → List Entry
frames_behind room fs pair = if nat_le (put_size fs pair) room then fs ++ put_frames fs pair else fs

-- for each whether it fits in the room that is left
abbrev pub fit : ℕ → List Entry → List Pair → List Bool
fit room fs [] = []
fit room fs (pair ∷ pairs) =
    if nat_le (put_size fs pair) room
    then true ∷ fit (room - put_size fs pair) (fs ++ put_frames fs pair) pairs
    else false ∷ fit room fs pairs

-- the frames of those that do
abbrev pub added : ℕ → List Entry → List Pair → List Entry
added room fs [] = []
added room fs (pair ∷ pairs) =
    if nat_le (put_size fs pair) room
    then put_frames fs pair ++ added (room - put_size fs pair) (fs ++ put_frames fs pair) pairs
    else added room fs pairs

-- the pairs that do
abbrev pub kept : List Bool → List Pair → List Pair
kept [] pairs = []
kept fits [] = []
kept (true ∷ fits) (pair ∷ pairs) = pair ∷ kept fits pairs
kept (false ∷ fits) (pair ∷ pairs) = kept fits pairs
