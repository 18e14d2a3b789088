-- The frames of a pair stand for it, and may be appended.
use Rattle.std.proofs.Common.{◌≡◌, ℕ, ◌+◌, ◌≤◌, ◌<◌, ◌^◌, Bool, true, false, cond, List, [], ◌∷◌, ◌++◌, length, refl, sym, ◌∙◌, ap, arith, append_assoc, length-append}
use Rattle.std.specs.Prelude.{◌==◌}
use Rattle.std.proofs.lemmas.Bool.{and_parts, and_from, lt-ltb, ltb-true}
use Rattle.sha2.proofs.Facts256.{length-sha256}
use Rattle.codes.specs.Codes.{Each}
use Rattle.cache_api.specs.Pairs.{Pair}
use Rattle.record_log.specs.declared.kind.TheConstants.{CONTENT}
use Rattle.record_log.specs.Kinds.{Entry, has_form, blobs_in, blobs, text}
use Rattle.record_log.specs.Pieces.{Piece, PieceFits, PiecesFit, is_below, all_below}
use Rattle.record_log.specs.Pieces.Piece.{Literal, Content}
use Rattle.record_log.specs.Records.{record_again, both_below_text}
use Rattle.record_log.specs.Forms.{form_4}
use Rattle.record_log.specs.Frames.{opened}
use Rattle.record_log.specs.Texts.{blobs_append}
use Rattle.blob_pool.specs.Contents.{contents_of}
use Rattle.blob_pool.specs.Blobs.{contents_of-same}
use Rattle.pair_frames.specs.Runs.{key_runs, value_runs}
use Rattle.pair_frames.specs.Pairs.{joined_pair, pair_in, pairs_in}
use Rattle.pair_frames.specs.Joins.{pairs_in-none, pairs_in-push}
use Rattle.pair_frames.specs.Reading.{record_places, record_places-push, record_places-none}
use Rattle.pair_frames.specs.Puts.{pair_blobs, put_record, record_frame, put_frames, put_size}
use Rattle.pair_frames.specs.Laws.{AreTexts, IsWritable, AreNew, MayFollow}
use Rattle.pair_frames.proofs.Contents.{key_kept, value_kept, pair_new, known_with, within_with, formed_with, no_pair, new_with}
use Rattle.pair_frames.proofs.Cutting.{pieces_join, pieces_below}
use Rattle.pair_frames.proofs.Texts.{key_flat, value_flat}
use Rattle.pair_frames.proofs.Sizes.{piece_bytes_in, bytes_in, put_parts, record_size, sum_cons}

-- ---- the record

key_below : (fs : List Entry) (pair : Pair)
    → all_below (blobs (fs ++ pair_blobs fs pair)) (put_record fs pair).0 ≡ true
key_below fs pair = pieces_below (fs ++ pair_blobs fs pair) [] (key_runs pair.0) (key_kept fs pair)

value_below : (fs : List Entry) (pair : Pair)
    → all_below (blobs (fs ++ pair_blobs fs pair)) (put_record fs pair).1 ≡ true
value_below fs pair =
    pieces_below (fs ++ pair_blobs fs pair) [] (value_runs pair.1) (value_kept fs pair)

record_form : (fs : List Entry) (pair : Pair) → IsWritable fs pair
    → has_form (fs ++ pair_blobs fs pair) (record_frame (fs ++ pair_blobs fs pair) pair) ≡ true
unfolding has_form
record_form fs pair writable =
    let all = fs ++ pair_blobs fs pair in
    let r = put_record fs pair in
    let below =
    both_below_text true (blobs all) r writable.fits (key_below fs pair) (value_below fs pair) in
    and_from _ _ (form_4 (blobs all) (record_frame all pair) refl (length-sha256 pair.0) below)
    (and_from _ _ (lt-ltb _ _ (omega (arith, length-sha256 pair.0))) (lt-ltb _ _ writable.short))

-- what it stands for
record_pair : (fs : List Entry) (pair : Pair) → AreTexts pair → IsWritable fs pair
    → pair_in (contents_of (fs ++ pair_blobs fs pair))
    (record_frame (fs ++ pair_blobs fs pair) pair)
    ≡ pair
unfolding pair_in
record_pair fs pair texts writable =
    let all = fs ++ pair_blobs fs pair in
    let key = pieces_join all [] (key_runs pair.0) (key_kept fs pair) in
    let value = pieces_join all [] (value_runs pair.1) (value_kept fs pair) in
    ap (joined_pair (contents_of all)) (record_again true (put_record fs pair) writable.fits)
    ∙ (λ i. ((key ∙ key_flat pair.0 texts.key) i, (value ∙ value_flat pair.1 texts.value) i))

-- ---- the frames

pub put_pairs : (fs : List Entry) (pair : Pair) → AreTexts pair → IsWritable fs pair
    → pairs_in (fs ++ put_frames fs pair) ≡ pairs_in fs ++ pair ∷ []
unfolding put_frames
put_pairs fs pair texts writable =
    let new = pair_blobs fs pair in
    let frame = record_frame (fs ++ new) pair in
    let same = pairs_in-none fs new (no_pair fs new (pair_new fs pair)) in
    ap pairs_in (sym (append_assoc fs new (frame ∷ [])))
    ∙ pairs_in-push (fs ++ new) frame refl
    ∙ (λ i. same i ++ record_pair fs pair texts writable i ∷ [])

-- the record stands behind the contents that are added
pub put_places : (fs : List Entry) (pair : Pair)
    → record_places 0 (fs ++ put_frames fs pair)
    ≡ record_places 0 fs ++ (length fs + length (pair_blobs fs pair)) ∷ []
unfolding put_frames
put_places fs pair =
    let new = pair_blobs fs pair in
    let frame = record_frame (fs ++ new) pair in
    let same = record_places-none 0 fs new (no_pair fs new (pair_new fs pair)) in
    let at : 0 + length (fs ++ new) ≡ length fs + length new =
    omega (arith, length-append fs new) in
    ap (record_places 0) (sym (append_assoc fs new (frame ∷ [])))
    ∙ record_places-push 0 (fs ++ new) frame refl
    ∙ (λ i. same i ++ at i ∷ [])

pub put_contents : (fs : List Entry) (pair : Pair)
    → contents_of (fs ++ put_frames fs pair) ≡ contents_of (fs ++ pair_blobs fs pair)
unfolding put_frames
put_contents fs pair =
    let new = pair_blobs fs pair in
    let frame = record_frame (fs ++ new) pair in
    ap contents_of (sym (append_assoc fs new (frame ∷ [])))
    ∙ contents_of-same (fs ++ new) frame (λ kind. absurd (omega (arith, kind)))

pub put_follow : (fs : List Entry) (pair : Pair) → IsWritable fs pair
    → MayFollow fs (put_frames fs pair)
unfolding put_frames
put_follow fs pair writable =
    let new = pair_blobs fs pair in
    let frame = record_frame (fs ++ new) pair in
    let are = pair_new fs pair in
    record {
      formed = formed_with fs new (frame ∷ []) are
          (and_from _ _ (record_form fs pair writable) refl);
      known = known_with fs new (frame ∷ []) are (refl, tt);
      short = within_with fs new (frame ∷ []) are
          (omega (arith, length-sha256 pair.0), writable.short, tt);
    }

pub put_once : (fs : List Entry) (pair : Pair) → AreNew fs (put_frames fs pair)
unfolding put_frames
put_once fs pair =
    let new = pair_blobs fs pair in
    new_with fs new (record_frame (fs ++ new) pair ∷ []) (pair_new fs pair)
    ((λ kind. absurd (omega (arith, kind))), tt)

-- ---- when the record can be written

-- a piece takes a byte at least, and more than its literal
fit_by : (n : ℕ) (p : Piece) → n ≤ 2 ^ 64 → is_below n p ≡ true → piece_bytes_in p < 2 ^ 64
    → PieceFits (2 ^ 64) p
fit_by n (Literal bytes) le below small = omega arith
fit_by n (Content k) le below small = omega (arith, ltb-true k n below)

counted : (pieces : List Piece) → length pieces ≤ bytes_in pieces
counted [] = omega arith
counted (Literal b ∷ pieces) =
    omega (arith, sum_cons piece_bytes_in (Literal b) pieces, counted pieces)
counted (Content n ∷ pieces) =
    omega (arith, sum_cons piece_bytes_in (Content n) pieces, counted pieces)

each_fits : (n : ℕ) (pieces : List Piece) → n ≤ 2 ^ 64 → all_below n pieces ≡ true
    → bytes_in pieces < 2 ^ 64 → Each (PieceFits (2 ^ 64)) pieces
each_fits n [] le below small = tt
each_fits n (p ∷ pieces) le below small =
    let parts = and_parts _ _ below in (
      fit_by n p le parts.0 (omega (arith, sum_cons piece_bytes_in p pieces)),
      each_fits n pieces le parts.1 (omega (arith, sum_cons piece_bytes_in p pieces)),
    )

pieces_fit : (n : ℕ) (pieces : List Piece) → n ≤ 2 ^ 64 → all_below n pieces ≡ true
    → bytes_in pieces < 2 ^ 64 → PiecesFit (2 ^ 64) pieces
pieces_fit n pieces le below small =
    record { few = omega (arith, counted pieces); each = each_fits n pieces le below small }

-- there are no more contents than bytes
blobs_by : (b : Bool) (e : Entry) (es more : List Entry) → length es ≤ length (opened more)
    → length (cond b (e ∷ es) es) ≤ length (opened (e ∷ more))
blobs_by true e es more le = omega (arith, length-append (text e) (opened more))
blobs_by false e es more le = omega (arith, length-append (text e) (opened more))

blobs_few : (fs : List Entry) → blobs fs ≤ length (opened fs)
unfolding blobs
blobs_few [] = omega arith
blobs_few (e ∷ es) = blobs_by (e.kind == CONTENT) e (blobs_in es) es (blobs_few es)

pub put_writable : (fs : List Entry) (pair : Pair) → length (opened fs) + put_size fs pair < 2 ^ 64
    → IsWritable fs pair
put_writable fs pair small =
    let r = put_record fs pair in
    let parts = put_parts fs pair in
    let size = record_size r in
    let new = pair_blobs fs pair in
    let few : blobs (fs ++ new) ≤ 2 ^ 64 =
    omega (arith, blobs_append fs new, blobs_few fs, blobs_few new, parts) in
    let small_key : bytes_in r.0 < 2 ^ 64 = omega (arith, parts, size) in
    let small_value : bytes_in r.1 < 2 ^ 64 = omega (arith, parts, size) in
    record {
      fits = record {
        first = pieces_fit (blobs (fs ++ new)) r.0 few (key_below fs pair) small_key;
        second = pieces_fit (blobs (fs ++ new)) r.1 few (value_below fs pair) small_value;
      };
      short = omega (arith, parts);
    }
