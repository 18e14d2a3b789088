-- The pieces of a text that is being cut.
use Rattle.std.specs.Prelude.{◌≡◌, ℕ, ◌+◌, List, ◌++◌, length}
use Rattle.std.specs.Int.{w64}
use Rattle.codes.specs.Codes.{items}
use Rattle.cache_api.specs.Memory.{capped}
use Rattle.record_log.specs.Pieces.{Piece, piece_text}
use Rattle.pair_writer.specs.declared.pieces.Pieces.{Pieces}

-- the bytes that are in no piece yet
abbrev pub open_in : Pieces → List ℕ
open_in pieces = pieces.literal.items

-- these pieces were added, and these bytes are in none
pub record Adds (old new : Pieces) (added : List Piece) (rest : List ℕ) : Type 0 where
  pub text : new.items.items ≡ old.items.items ++ items (piece_text w64) added
  pub many : (n : ℕ) → old.count ≡ capped n → new.count ≡ capped (n + length added)
  pub rest_is : open_in new ≡ rest

-- they are these pieces
pub record ArePieces (pieces : Pieces) (are : List Piece) : Type 0 where
  pub text : pieces.items.items ≡ items (piece_text w64) are
  pub many : pieces.count ≡ capped (length are)

-- how many bytes they take, and those that are in none
abbrev pub weight : Pieces → ℕ
weight pieces = length pieces.items.items + length (open_in pieces)
