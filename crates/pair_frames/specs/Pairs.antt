-- The pairs for which the frames of a store stand (this project's own format).
use Rattle.std.specs.Prelude.{◌≡◌, ℕ, Bool, false, ◌==◌, ◌||◌, if◌then◌else◌, List, [], ◌∷◌, ◌++◌, get_or, Option, Some, None}
use Rattle.cache_api.specs.Pairs.{Pair}
use Rattle.record_log.specs.declared.kind.TheConstants.{PAIR, CONTENT}
use Rattle.record_log.specs.Kinds.{Entry, holds_record, width_of}
use Rattle.record_log.specs.Pieces.{Piece, Record, record_of}
use Rattle.record_log.specs.Pieces.Piece.{Literal, Content}

-- the bytes for which a piece stands, where these are the contents
abbrev pub piece_bytes : List (List ℕ) → Piece → List ℕ
piece_bytes contents (Literal bytes) = bytes
piece_bytes contents (Content number) = get_or contents number []

-- and those of pieces one after another
abbrev pub joined : List (List ℕ) → List Piece → List ℕ
joined contents [] = []
joined contents (piece ∷ pieces) = piece_bytes contents piece ++ joined contents pieces

-- the pair of a record: its pieces joined
abbrev pub joined_pair : List (List ℕ) → Option Record → Pair
joined_pair contents None = ([], [])
joined_pair contents (Some r) = (joined contents r.0, joined contents r.1)

-- whether a frame of that kind stands for a pair
abbrev pub holds_pair : ℕ → Bool
holds_pair kind = (kind == PAIR) || holds_record kind

-- the pair for which such a frame stands: it is in the frame, or cut into pieces
unfoldable pub pair_in : List (List ℕ) → Entry → Pair
pair_in contents e =
    if e.kind == PAIR then (e.key, e.value)
    else joined_pair contents (record_of (width_of e.kind) e.value)

-- the pairs of frames that stand behind these contents
abbrev pub pairs_from : List (List ℕ) → List Entry → List Pair
pairs_from contents [] = []
pairs_from contents (e ∷ es) =
    if e.kind == CONTENT then pairs_from (contents ++ e.value ∷ []) es
    else (
    if holds_pair e.kind then pair_in contents e ∷ pairs_from contents es
    else pairs_from contents es
    )

-- the pairs for which frames stand, in order
unfoldable pub pairs_in : List Entry → List Pair
pairs_in fs = pairs_from [] fs

-- none of these frames stands for a pair: they are contents and generations
abbrev pub HoldNoPair : List Entry → Type 0
HoldNoPair [] = Unit {0}
HoldNoPair (e ∷ es) = (holds_pair e.kind ≡ false) × HoldNoPair es
