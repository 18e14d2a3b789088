-- What the frames of a pair take.
use Rattle.std.proofs.Common.{◌≡◌, ℕ, ◌+◌, ◌*◌, ◌≤◌, true, List, [], ◌∷◌, ◌++◌, length, Option, Some, None, refl, ap, arith, length-append}
use Rattle.std.specs.Prelude.{sum_by}
use Rattle.std.specs.Int.{w64}
use Rattle.std.proofs.lemmas.List.Sums.{sum_by-append}
use Rattle.sha2.proofs.Facts256.{length-sha256}
use Rattle.codes.specs.Codes.{Each}
use Rattle.cache_api.specs.Pairs.{Pair}
use Rattle.cache_api.specs.Cache.{ample}
use Rattle.record_log.specs.declared.kind.TheConstants.{LONG_RECORD}
use Rattle.record_log.specs.Kinds.{Entry, width_of, text, size_in, size}
use Rattle.record_log.specs.Pieces.{Piece, Record, record_text, piece_size}
use Rattle.record_log.specs.Pieces.Piece.{Literal}
use Rattle.record_log.specs.Records.{record_text-size}
use Rattle.record_log.specs.Forms.{size_short}
use Rattle.record_log.specs.Frames.{opened}
use Rattle.record_log.specs.Texts.{length-text, opened_append}
use Rattle.blob_pool.specs.Pool.{first_of, blob, unless_found, missing}
use Rattle.pair_frames.specs.Runs.{Run, flat, contents_in, key_runs, value_runs}
use Rattle.pair_frames.specs.Runs.Run.{Plain, Whole}
use Rattle.pair_frames.specs.Puts.{literal_before, named, pieces_from, blobs_for, pair_contents, pair_blobs, put_record, record_frame, put_frames, put_size}
use Rattle.pair_frames.specs.Laws.{AreTexts}
use Rattle.pair_frames.proofs.Contents.{IsContent, at_least, key_contents, value_contents}
use Rattle.pair_frames.proofs.Texts.{key_flat, value_flat}

abbrev pub piece_bytes_in : Piece → ℕ
piece_bytes_in p = piece_size w64 p

abbrev pub bytes_in : List Piece → ℕ
bytes_in pieces = sum_by piece_bytes_in pieces

-- the frame of a content takes its bytes, 9 of a head, 32 of a digest and a gate
abbrev pub blob_cost : List ℕ → ℕ
blob_cost bytes = 42 + length bytes

abbrev pub costs : List (List ℕ) → ℕ
costs contents = sum_by blob_cost contents

pub sum_cons : {A : Type 0} (f : A → ℕ) (x : A) (xs : List A)
    → sum_by f (x ∷ xs) ≡ f x + sum_by f xs
sum_cons f x xs = omega (arith, sum_by-append f (x ∷ []) xs)

-- ---- the contents

blob_size : (bytes : List ℕ) → length (opened (blob bytes ∷ [])) ≡ 42 + length bytes
blob_size bytes =
    let e = blob bytes in
    let short = size_short e (λ is. absurd (omega (arith, is))) in
    omega (arith, length-append (text e) [], length-text e, short, length-sha256 bytes)

missing_size : (o : Option ℕ) (bytes : List ℕ)
    → length (opened (unless_found o bytes)) ≤ blob_cost bytes
missing_size (Some k) bytes = omega arith
missing_size None bytes = omega (arith, blob_size bytes)

blobs_size : (contents : List (List ℕ)) (fs : List Entry)
    → length (opened (blobs_for fs contents)) ≤ costs contents
blobs_size [] fs = omega arith
blobs_size (c ∷ cs) fs =
    let now = missing fs c in
    let more = blobs_for (fs ++ now) cs in
    omega (
      arith,
      ap length (opened_append now more),
      length-append (opened now) (opened more),
      missing_size (first_of fs c) c,
      blobs_size cs (fs ++ now),
      sum_cons blob_cost c cs,
    )

-- ---- the pieces

literal_size : (before : List ℕ) (pieces : List Piece)
    → bytes_in (literal_before before pieces) ≤ 9 + length before + bytes_in pieces
literal_size [] pieces = omega arith
literal_size (x ∷ before) pieces =
    omega (arith, sum_cons piece_bytes_in (Literal (x ∷ before)) pieces)

-- a content of 64 bytes costs no more than twice its bytes, with its piece and a literal before it
pub pieces_within : (fs : List Entry) (before : List ℕ) (runs : List Run)
    → Each IsContent (contents_in runs)
    → bytes_in (pieces_from fs before runs) + costs (contents_in runs)
    ≤ 9 + length before + 2 * length (flat runs)
pieces_within fs before [] each = omega (arith, literal_size before [])
pieces_within fs before (Plain bytes ∷ runs) each =
    let more = pieces_within fs (before ++ bytes) runs each in
    omega (arith, more, length-append before bytes, length-append bytes (flat runs))
pieces_within fs before (Whole bytes ∷ runs) each =
    omega (
      arith,
      literal_size before (named fs bytes ∷ pieces_from fs [] runs),
      sum_cons piece_bytes_in (named fs bytes) (pieces_from fs [] runs),
      sum_cons blob_cost bytes (contents_in runs),
      at_least bytes each.0,
      pieces_within fs [] runs each.1,
      length-append bytes (flat runs),
    )

-- ---- all together

pub record_size : (r : Record) → length (record_text w64 r) ≡ 16 + bytes_in r.0 + bytes_in r.1
record_size r = omega (arith, record_text-size true r)

long_size : (e : Entry) → e.kind ≡ LONG_RECORD
    → length (opened (e ∷ [])) ≡ 18 + length e.key + length e.value
unfolding size
long_size e is =
    let long : size e ≡ size_in w64 e = ap (λ (k : ℕ). size_in (width_of k) e) is in
    omega (arith, length-append (text e) [], length-text e, long)

pub put_parts : (fs : List Entry) (pair : Pair)
    → put_size fs pair
    ≡ length (opened (pair_blobs fs pair)) + (50 + length (record_text w64 (put_record fs pair)))
unfolding put_frames
put_parts fs pair =
    let frame = record_frame (fs ++ pair_blobs fs pair) pair in
    omega (
      arith,
      ap length (opened_append (pair_blobs fs pair) (frame ∷ [])),
      length-append (opened (pair_blobs fs pair)) (opened (frame ∷ [])),
      long_size frame refl,
      length-sha256 pair.0,
    )

pub size_ample : (fs : List Entry) (pair : Pair) → AreTexts pair
    → put_size fs pair ≤ ample pair
size_ample fs pair texts =
    let all = fs ++ pair_blobs fs pair in
    let key = key_runs pair.0 in
    let value = value_runs pair.1 in
    omega (
      arith,
      put_parts fs pair,
      blobs_size (pair_contents pair) fs,
      sum_by-append blob_cost (contents_in key) (contents_in value),
      record_size (put_record fs pair),
      pieces_within all [] key (key_contents pair.0),
      pieces_within all [] value (value_contents pair.1),
      ap length (key_flat pair.0 texts.key),
      ap length (value_flat pair.1 texts.value),
    )
