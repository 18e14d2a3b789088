-- The pair in a frame, and how often a log is read for it.
use Rattle.std.specs.Prelude.{ℕ, ◌+◌, ◌*◌, ◌==◌, if◌then◌else◌, List, [], ◌∷◌, length, get_or, unwrap_or, Option, Some, None}
use Rattle.cache_api.specs.Artifacts.{Artifact}
use Rattle.cache_api.specs.Pairs.{Pair}
use Rattle.cache_api.specs.Reading.{artifact_in}
use Rattle.record_log.specs.declared.kind.TheConstants.{PAIR}
use Rattle.record_log.specs.Kinds.{Entry, entry, width_of}
use Rattle.record_log.specs.Pieces.{Piece, Record, record_of}
use Rattle.record_log.specs.Pieces.Piece.{Literal, Content}
use Rattle.blob_pool.specs.Contents.{contents_of}
use Rattle.pair_frames.specs.Pairs.{pair_in}

-- the frame with that number
abbrev pub frame_of : List Entry → ℕ → Entry
frame_of fs number = get_or fs number (entry 0 [] [])

-- the pair for which it stands
abbrev pub pair_at : List Entry → ℕ → Pair
pair_at fs number = pair_in (contents_of fs) (frame_of fs number)

-- the pieces of a value that is a record, and none where it is no record
abbrev pub pieces_or_none : Option Record → Record
pieces_or_none o = unwrap_or o ([], [])

-- the pieces of a frame that is cut into them
abbrev pub cut_in : Entry → Record
cut_in e = pieces_or_none (record_of (width_of e.kind) e.value)

-- those of a pair that stands whole: one for its key and one for its value
abbrev pub whole_in : Entry → Record
whole_in e = (Literal e.key ∷ [], Literal e.value ∷ [])

-- a frame as pieces
abbrev pub record_in : Entry → Record
record_in e = if e.kind == PAIR then whole_in e else cut_in e

-- how many of the pieces name a content
abbrev pub contents_among : List Piece → ℕ
contents_among [] = 0
contents_among (Literal _ ∷ pieces) = contents_among pieces
contents_among (Content _ ∷ pieces) = 1 + contents_among pieces

-- how often is read at most: the frame, and each content that is named
abbrev pub reads_in : Record → ℕ
reads_in r = 1 + (contents_among r.0 + contents_among r.1)

abbrev pub reads_of : List Entry → ℕ → ℕ
reads_of fs number = reads_in (record_in (frame_of fs number))

-- how many pieces a frame is cut into
abbrev pub pieces_in : Entry → ℕ
pieces_in e = if e.kind == PAIR then 0 else length (cut_in e).0 + length (cut_in e).1

-- how many files the artifact has, where there is one
abbrev pub file_count : Option Artifact → ℕ
file_count None = 0
file_count (Some a) = length a.1

-- for finding where the artifact stands and then reading it: two, two for each piece, and one for
-- each of its files
abbrev pub cost_of : List Entry → ℕ → ℕ
cost_of fs number =
    2 + 2 * pieces_in (frame_of fs number) + file_count (artifact_in (pair_at fs number).1)
