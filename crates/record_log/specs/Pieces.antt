-- The value of a record: the pieces of a key and of a value, and its bytes.
use Rattle.std.specs.Prelude.{◌<◌, ℕ, ◌+◌, ◌^◌, Bool, true, false, ◌&&◌, ◌==◌, if◌then◌else◌, nat_lt, List, [], ◌∷◌, ◌++◌, length, take, drop, sum_by, Option, Some, None}
use Rattle.std.specs.Int.{Width, w32, w64, byte_len, from_le_bytes, to_le_bytes}
use Rattle.codes.specs.Codes.{Taken, then_read, read_bytes, items, read_items, both, read_both, whole_of, Each, AreBoth}
use Rattle.record_log.specs.declared.piece.TheConstants.{LITERAL, NAMED}
use Rattle.record_log.specs.declared.piece.PieceRef.{PieceRef}
use Rattle.record_log.specs.declared.piece.PieceRef.TheVariants as shown

pub data Piece : Type 0 where
  Literal : List ℕ → Piece
  -- the value of the frame of kind 2 with that number among those of kind 2
  Content : ℕ → Piece

-- a piece without where its bytes lie in memory
abbrev pub piece_in : PieceRef → Piece
piece_in (shown.Literal bytes) = Literal bytes.now
piece_in (shown.Content n) = Content n

-- the pieces of the key, and those of the value
abbrev pub Record : Type 0
Record = List Piece × List Piece

-- the width of numbers that have eight bytes, or four
abbrev pub width : Bool → Width
width long = if long then w64 else w32

-- each number is below this
abbrev pub limit : Bool → ℕ
limit long = if long then 2 ^ 64 else 2 ^ 32

-- a number, the least byte first
unfoldable pub number : Width → ℕ → List ℕ
number w n = to_le_bytes w n

unfoldable pub read_number : Width → List ℕ → Taken ℕ
read_number w bytes =
    if nat_lt (length bytes) (byte_len w)
    then None
    else Some (from_le_bytes w (take (byte_len w) bytes), drop (byte_len w) bytes)

-- a piece is bytes behind their length, or the number of a content
unfoldable pub piece_text : Width → Piece → List ℕ
piece_text w (Literal bytes) = LITERAL ∷ (number w (length bytes) ++ bytes)
piece_text w (Content n) = NAMED ∷ number w n

-- what a piece says, by its first byte and the number behind it
abbrev pub piece_by : ℕ → ℕ → List ℕ → Taken Piece
piece_by tag n rest =
    if tag == LITERAL
    then then_read (read_bytes n rest) (λ bytes more. Some (Literal bytes, more))
    else (if tag == NAMED then Some (Content n, rest) else None)

unfoldable pub read_piece : Width → List ℕ → Taken Piece
read_piece w [] = None
read_piece w (tag ∷ rest) = then_read (read_number w rest) (piece_by tag)

-- pieces behind their count
unfoldable pub pieces_text : Width → List Piece → List ℕ
pieces_text w pieces = number w (length pieces) ++ items (piece_text w) pieces

unfoldable pub read_pieces : Width → List ℕ → Taken (List Piece)
read_pieces w bytes = then_read (read_number w bytes) (read_items (read_piece w) [])

unfoldable pub record_text : Width → Record → List ℕ
record_text w r = both (pieces_text w) (pieces_text w) r

-- the record whose text the bytes are, and nothing behind it
unfoldable pub record_of : Width → List ℕ → Option Record
record_of w bytes = whole_of (read_both (read_pieces w) (read_pieces w) bytes)

-- the number that a piece writes is below a limit
abbrev pub PieceFits : ℕ → Piece → Type 0
PieceFits limit (Literal bytes) = length bytes < limit
PieceFits limit (Content n) = n < limit

-- so is the count of the pieces
pub record PiecesFit (limit : ℕ) (pieces : List Piece) : Type 0 where
  pub few : length pieces < limit
  pub each : Each (PieceFits limit) pieces

-- pieces of key and value
abbrev pub RecordFits : ℕ → Record → Type 0
RecordFits limit r = AreBoth (PiecesFit limit) (PiecesFit limit) r

-- how many bytes a piece takes: its tag, its number, and a literal's bytes
abbrev pub piece_size : Width → Piece → ℕ
piece_size w (Literal bytes) = 1 + (byte_len w + length bytes)
piece_size w (Content n) = 1 + byte_len w

-- and pieces behind their count
abbrev pub pieces_size : Width → List Piece → ℕ
pieces_size w pieces = byte_len w + sum_by (piece_size w) pieces

-- a piece that names a content names one of the first, of which there are so many
abbrev pub is_below : ℕ → Piece → Bool
is_below contents (Literal _) = true
is_below contents (Content n) = nat_lt n contents

abbrev pub all_below : ℕ → List Piece → Bool
all_below contents [] = true
all_below contents (x ∷ xs) = is_below contents x && all_below contents xs

abbrev pub both_below : ℕ → Option Record → Bool
both_below contents None = false
both_below contents (Some r) = all_below contents r.0 && all_below contents r.1

-- what follows what was read, where that passes a test
abbrev pub behind : {A : Type 0} → (A → Bool) → Taken A → Option (List ℕ)
behind passes None = None
behind passes (Some p) = if passes p.0 then Some p.1 else None
