-- Pieces, and where they stand in the text of a log's frames.
use Rattle.std.specs.Prelude.{◌<◌, ℕ, List, [], ◌∷◌, map, length}
use Rattle.rel_path.specs.declared.span.Span.{Span}
use Rattle.record_log.specs.Pieces.{Piece}
use Rattle.record_log.specs.Pieces.Piece.{Literal, Content}
use Rattle.record_log.specs.Seats.{IsSpanOf}
use Rattle.pair_frames.specs.Pairs.{piece_bytes, joined}
use Rattle.artifact_reader.specs.declared.part.Part.{Part}
use Rattle.artifact_reader.specs.declared.part.Part.TheVariants as part
use Rattle.pair_reader.specs.declared.piece.PairPieces.{PairPieces}
use Rattle.pair_reader.specs.declared.piece.PieceAt.{PieceAt}
use Rattle.pair_reader.specs.declared.piece.PieceAt.TheVariants as at

-- the piece without where it stands
abbrev pub piece_of : PieceAt → Piece
piece_of (at.Literal bytes offset) = Literal bytes.now
piece_of (at.Content id span) = Content id.number

abbrev pub pieces_of : List PieceAt → List Piece
pieces_of pieces = map piece_of pieces

-- where it stands
abbrev pub place_of : PieceAt → Span
place_of (at.Literal bytes offset) = record { at = offset; len = length bytes.now }
place_of (at.Content id span) = span

-- the bytes for which pieces stand, where these are the contents
abbrev pub bytes_of : List (List ℕ) → List PieceAt → List ℕ
bytes_of contents pieces = joined contents (pieces_of pieces)

-- a content is one of so many
abbrev pub IsThere : ℕ → PieceAt → Type 0
IsThere count (at.Literal bytes offset) = Unit {0}
IsThere count (at.Content id span) = id.number < count

-- each of them is
abbrev pub AreThere : ℕ → List PieceAt → Type 0
AreThere count [] = Unit {0}
AreThere count (piece ∷ pieces) = IsThere count piece × AreThere count pieces

-- its place in the text shows its bytes
abbrev pub Shows : List ℕ → List (List ℕ) → PieceAt → Type 0
Shows text contents piece = IsSpanOf text (place_of piece) (piece_bytes contents (piece_of piece))

-- and so does that of each
abbrev pub AllShow : List ℕ → List (List ℕ) → List PieceAt → Type 0
AllShow text contents [] = Unit {0}
AllShow text contents (piece ∷ pieces) =
    Shows text contents piece × AllShow text contents pieces

-- bytes stand there
abbrev pub StandsAt : List ℕ → ℕ → List ℕ → Type 0
StandsAt text offset bytes = IsSpanOf text (record { at = offset; len = length bytes }) bytes

-- ---- the pieces of a pair

abbrev pub BothThere : ℕ → PairPieces → Type 0
BothThere count p = AreThere count p.key.items × AreThere count p.value.items

abbrev pub BothShow : List ℕ → List (List ℕ) → PairPieces → Type 0
BothShow text contents p = AllShow text contents p.key.items × AllShow text contents p.value.items

-- ---- pieces as parts of a text

-- a content is not known
abbrev pub part_of : PieceAt → Part
part_of (at.Literal bytes offset) =
    part.Known bytes (record { at = offset; len = length bytes.now })
part_of (at.Content id span) = part.Unknown span
