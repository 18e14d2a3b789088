-- The pieces of a record: joined they are the bytes that were cut, they name contents that stand,
-- and they are maximal.
use Rattle.std.proofs.Common.{◌≡◌, ℕ, true, List, [], ◌∷◌, ◌++◌, Option, refl, ◌∙◌, ap, arith, append_assoc}
use Rattle.std.specs.Prelude.{unwrap_or}
use Rattle.std.proofs.lemmas.Bool.{and_from, lt-ltb}
use Rattle.codes.specs.Codes.{Each}
use Rattle.record_log.specs.Kinds.{Entry, blobs}
use Rattle.record_log.specs.Pieces.{Piece, is_below, all_below}
use Rattle.record_log.specs.Pieces.Piece.{Content}
use Rattle.blob_pool.specs.Contents.{contents_of, content_at}
use Rattle.blob_pool.specs.Blobs.{length-contents_of}
use Rattle.blob_pool.specs.Pool.{first_of}
use Rattle.blob_pool.specs.First.{first_is}
use Rattle.pair_frames.specs.Runs.{Run, flat, contents_in}
use Rattle.pair_frames.specs.Runs.Run.{Plain, Whole}
use Rattle.pair_frames.specs.Pairs.{piece_bytes, joined}
use Rattle.pair_frames.specs.Puts.{literal_before, named, pieces_from}
use Rattle.pair_frames.specs.Laws.{IsMaximal}
use Rattle.pair_frames.proofs.Contents.{IsKept}

-- ---- joined

literal_joins : (contents : List (List ℕ)) (before : List ℕ) (pieces : List Piece)
    → joined contents (literal_before before pieces) ≡ before ++ joined contents pieces
literal_joins contents [] pieces = refl
literal_joins contents (x ∷ before) pieces = refl

named_is : (fs : List Entry) (bytes : List ℕ) → IsKept fs bytes
    → piece_bytes (contents_of fs) (named fs bytes) ≡ bytes
named_is fs bytes (k, is) =
    ap (λ (o : Option ℕ). content_at fs (unwrap_or o 0)) is ∙ (first_is fs bytes k is).0

pub pieces_join : (fs : List Entry) (before : List ℕ) (runs : List Run)
    → Each (IsKept fs) (contents_in runs)
    → joined (contents_of fs) (pieces_from fs before runs) ≡ before ++ flat runs
pieces_join fs before [] kept = literal_joins (contents_of fs) before []
pieces_join fs before (Plain bytes ∷ runs) kept =
    pieces_join fs (before ++ bytes) runs kept ∙ append_assoc before bytes (flat runs)
pieces_join fs before (Whole bytes ∷ runs) kept =
    literal_joins (contents_of fs) before (named fs bytes ∷ pieces_from fs [] runs)
    ∙ ap (λ (l : List ℕ). before ++ l)
    (λ i. named_is fs bytes kept.0 i ++ pieces_join fs [] runs kept.1 i)

-- ---- below the count of contents

literal_below : (n : ℕ) (before : List ℕ) (pieces : List Piece) → all_below n pieces ≡ true
    → all_below n (literal_before before pieces) ≡ true
literal_below n [] pieces is = is
literal_below n (x ∷ before) pieces is = is

named_below : (fs : List Entry) (bytes : List ℕ) → IsKept fs bytes
    → is_below (blobs fs) (named fs bytes) ≡ true
unfolding blobs
named_below fs bytes (k, is) =
    ap (λ (o : Option ℕ). is_below (blobs fs) (Content (unwrap_or o 0))) is
    ∙ lt-ltb k (blobs fs) (omega (arith, (first_is fs bytes k is).1, length-contents_of fs))

pub pieces_below : (fs : List Entry) (before : List ℕ) (runs : List Run)
    → Each (IsKept fs) (contents_in runs)
    → all_below (blobs fs) (pieces_from fs before runs) ≡ true
pieces_below fs before [] kept = literal_below (blobs fs) before [] refl
pieces_below fs before (Plain bytes ∷ runs) kept = pieces_below fs (before ++ bytes) runs kept
pieces_below fs before (Whole bytes ∷ runs) kept =
    literal_below (blobs fs) before (named fs bytes ∷ pieces_from fs [] runs)
    (and_from _ _ (named_below fs bytes kept.0) (pieces_below fs [] runs kept.1))

-- ---- maximal

literal_maximal : (before : List ℕ) (n : ℕ) (pieces : List Piece) → IsMaximal pieces
    → IsMaximal (literal_before before (Content n ∷ pieces))
literal_maximal [] n pieces maximal = maximal
literal_maximal (x ∷ before) n pieces maximal = ((λ e. absurd cc), maximal)

last_maximal : (before : List ℕ) → IsMaximal (literal_before before [])
last_maximal [] = tt
last_maximal (x ∷ before) = λ e. absurd cc

pub pieces_maximal : (fs : List Entry) (before : List ℕ) (runs : List Run)
    → IsMaximal (pieces_from fs before runs)
pieces_maximal fs before [] = last_maximal before
pieces_maximal fs before (Plain bytes ∷ runs) = pieces_maximal fs (before ++ bytes) runs
pieces_maximal fs before (Whole bytes ∷ runs) =
    literal_maximal before (unwrap_or (first_of fs bytes) 0) (pieces_from fs [] runs)
    (pieces_maximal fs [] runs)
