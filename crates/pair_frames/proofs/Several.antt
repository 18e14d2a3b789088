-- The frames of several pairs.
use Rattle.std.proofs.Common.{◌≡◌, ℕ, zero, suc, ◌+◌, ◌≤◌, ◌<◌, ◌^◌, Bool, true, false, cond, List, [], ◌∷◌, ◌++◌, length, get_or, refl, sym, ◌∙◌, ap, arith, append_assoc, length-append}
use Rattle.std.specs.Prelude.{nat_le}
use Rattle.std.proofs.lemmas.Bool.{leb-true, leb-false}
use Rattle.std.proofs.lemmas.List.{append-nil}
use Rattle.codes.specs.Codes.{Each}
use Rattle.cache_api.specs.Pairs.{Pair}
use Rattle.cache_api.specs.Cache.{ample}
use Rattle.record_log.specs.Kinds.{Entry}
use Rattle.record_log.specs.Frames.{opened}
use Rattle.record_log.specs.Batch.{AllKnown, EachWithin}
use Rattle.record_log.specs.Texts.{opened_append, formed_append}
use Rattle.pair_frames.specs.Pairs.{pairs_in}
use Rattle.pair_frames.specs.Puts.{put_frames, put_size, fit, added, kept}
use Rattle.pair_frames.specs.Laws.{AreTexts, IsWritable, MayFollow, AllPut}
use Rattle.pair_frames.specs.Steps.{left_behind, added_behind, fit_behind, added_by, fit_by}
use Rattle.pair_frames.proofs.Putting.{put_pairs, put_follow, put_writable}
use Rattle.pair_frames.proofs.Sizes.{size_ample}

-- what is asked of the pairs behind one, by whether it fits
abbrev RestPut : Bool → ℕ → List Entry → Pair → List Pair → Type 0
RestPut fits room fs pair pairs =
    AllPut (cond fits (left_behind room (put_frames fs pair)) room)
    (cond fits (fs ++ put_frames fs pair) fs) pairs

-- ---- pairs

abbrev Stand : ℕ → List Entry → List Pair → Type 0
Stand room fs pairs =
    pairs_in (fs ++ added room fs pairs) ≡ pairs_in fs ++ kept (fit room fs pairs) pairs

stand_by : (fits : Bool) (room : ℕ) (fs : List Entry) (pair : Pair) (pairs : List Pair)
    → AreTexts pair → (fits ≡ true → IsWritable fs pair)
    → ((r : ℕ) (es : List Entry) → AllPut r es pairs → Stand r es pairs)
    → RestPut fits room fs pair pairs
    → pairs_in (fs ++ added_by fits room fs (put_frames fs pair) pairs)
    ≡ pairs_in fs ++ kept (fit_by fits room fs (put_frames fs pair) pairs) (pair ∷ pairs)
stand_by true room fs pair pairs texts writable more rest =
    let put = put_frames fs pair in
    let behind = kept (fit_behind room fs put pairs) pairs in
    ap pairs_in (sym (append_assoc fs put (added_behind room fs put pairs)))
    ∙ more (left_behind room put) (fs ++ put) rest
    ∙ ap (λ (l : List Pair). l ++ behind) (put_pairs fs pair texts (writable refl))
    ∙ append_assoc (pairs_in fs) (pair ∷ []) behind
stand_by false room fs pair pairs texts writable more rest = more room fs rest

pub several_pairs : (pairs : List Pair) (room : ℕ) (fs : List Entry) → AllPut room fs pairs
    → Stand room fs pairs
several_pairs [] room fs all = ap pairs_in (append-nil fs) ∙ sym (append-nil (pairs_in fs))
several_pairs (pair ∷ pairs) room fs all =
    let size = put_size fs pair in
    stand_by (nat_le size room) room fs pair pairs all.0 (λ fits. all.1 (leb-true size room fits))
    (λ r es. several_pairs pairs r es) all.2

-- ---- forms and lengths

known_both : (xs ys : List Entry) → AllKnown xs → AllKnown ys → AllKnown (xs ++ ys)
known_both [] ys first second = second
known_both (x ∷ xs) ys first second = (first.0, known_both xs ys first.1 second)

within_both : (xs ys : List Entry) → EachWithin xs → EachWithin ys → EachWithin (xs ++ ys)
within_both [] ys first second = second
within_both (x ∷ xs) ys first second = (first.0, first.1, within_both xs ys first.2 second)

follow_both : (fs xs ys : List Entry) → MayFollow fs xs → MayFollow (fs ++ xs) ys
    → MayFollow fs (xs ++ ys)
follow_both fs xs ys first second = record {
  formed = formed_append xs fs ys first.formed second.formed;
  known = known_both xs ys first.known second.known;
  short = within_both xs ys first.short second.short;
}

follow_by : (fits : Bool) (room : ℕ) (fs : List Entry) (pair : Pair) (pairs : List Pair)
    → (fits ≡ true → IsWritable fs pair)
    → ((r : ℕ) (es : List Entry) → AllPut r es pairs → MayFollow es (added r es pairs))
    → RestPut fits room fs pair pairs
    → MayFollow fs (added_by fits room fs (put_frames fs pair) pairs)
follow_by true room fs pair pairs writable more rest =
    let put = put_frames fs pair in
    follow_both fs put (added_behind room fs put pairs) (put_follow fs pair (writable refl))
    (more (left_behind room put) (fs ++ put) rest)
follow_by false room fs pair pairs writable more rest = more room fs rest

pub several_follow : (pairs : List Pair) (room : ℕ) (fs : List Entry) → AllPut room fs pairs
    → MayFollow fs (added room fs pairs)
several_follow [] room fs all = record { formed = refl; known = tt; short = tt }
several_follow (pair ∷ pairs) room fs all =
    let size = put_size fs pair in
    follow_by (nat_le size room) room fs pair pairs (λ fits. all.1 (leb-true size room fits))
    (λ r es. several_follow pairs r es) all.2

-- ---- sizes

length_both : (gs hs : List Entry)
    → length (opened (gs ++ hs)) ≡ length (opened gs) + length (opened hs)
length_both gs hs = ap length (opened_append gs hs) ∙ length-append (opened gs) (opened hs)

size_by : (fits : Bool) (room : ℕ) (fs : List Entry) (pair : Pair) (pairs : List Pair)
    → (fits ≡ true → put_size fs pair ≤ room)
    → ((r : ℕ) (es : List Entry) → length (opened (added r es pairs)) ≤ r)
    → length (opened (added_by fits room fs (put_frames fs pair) pairs)) ≤ room
size_by true room fs pair pairs le more =
    let put = put_frames fs pair in
    let rest = more (left_behind room put) (fs ++ put) in
    omega (arith, le refl, length_both put (added_behind room fs put pairs), rest)
size_by false room fs pair pairs le more = more room fs

pub several_size : (pairs : List Pair) (room : ℕ) (fs : List Entry)
    → length (opened (added room fs pairs)) ≤ room
several_size [] room fs = omega arith
several_size (pair ∷ pairs) room fs =
    let size = put_size fs pair in
    size_by (nat_le size room) room fs pair pairs (leb-true size room)
    (λ r es. several_size pairs r es)

even_by : (fits : Bool) (ones others : List Bool) (n : ℕ) → length ones ≡ n → length others ≡ n
    → length (cond fits (true ∷ ones) (false ∷ others)) ≡ suc n
even_by true ones others n is are = omega (arith, is)
even_by false ones others n is are = omega (arith, are)

pub several_even : (pairs : List Pair) (room : ℕ) (fs : List Entry)
    → length (fit room fs pairs) ≡ length pairs
several_even [] room fs = refl
several_even (pair ∷ pairs) room fs =
    let put = put_frames fs pair in
    even_by (nat_le (put_size fs pair) room) (fit_behind room fs put pairs) (fit room fs pairs)
    (length pairs)
    (several_even pairs (left_behind room put) (fs ++ put)) (several_even pairs room fs)

-- ---- what does not fit

-- less is left at the end than is enough for that pair, where it does not fit
abbrev IsFullAt : ℕ → List Entry → List Pair → ℕ → Pair → Type 0
IsFullAt room fs pairs i d =
    get_or (fit room fs pairs) i true ≡ false
    → left_behind room (added room fs pairs) < ample (get_or pairs i d)

full_by : (fits : Bool) (room : ℕ) (fs : List Entry) (pair : Pair) (pairs : List Pair) (i : ℕ)
    (d : Pair) → AreTexts pair → (fits ≡ false → room < put_size fs pair)
    → ((r : ℕ) (es : List Entry) (j : ℕ) → IsFullAt r es pairs j d)
    → get_or (fit_by fits room fs (put_frames fs pair) pairs) i true ≡ false
    → left_behind room (added_by fits room fs (put_frames fs pair) pairs)
    < ample (get_or (pair ∷ pairs) i d)
full_by true room fs pair pairs zero d texts lt more full = absurd cc
full_by true room fs pair pairs (suc i) d texts lt more full =
    let put = put_frames fs pair in
    let rest = more (left_behind room put) (fs ++ put) i full in
    omega (arith, rest, length_both put (added_behind room fs put pairs))
full_by false room fs pair pairs zero d texts lt more full =
    omega (arith, lt refl, size_ample fs pair texts)
full_by false room fs pair pairs (suc i) d texts lt more full = more room fs i full

pub several_full : (pairs : List Pair) (room : ℕ) (fs : List Entry) → Each AreTexts pairs
    → (i : ℕ) (d : Pair) → IsFullAt room fs pairs i d
several_full [] room fs texts i d full = absurd cc
several_full (pair ∷ pairs) room fs texts i d full =
    let size = put_size fs pair in
    full_by (nat_le size room) room fs pair pairs i d texts.0 (leb-false size room)
    (λ r es j. several_full pairs r es texts.1 j d) full

-- ---- when the records can be written

writable_by : (fits : Bool) (room : ℕ) (fs : List Entry) (pair : Pair) (pairs : List Pair)
    → (fits ≡ true → put_size fs pair ≤ room) → length (opened fs) + room < 2 ^ 64
    → ((r : ℕ) (es : List Entry) → length (opened es) + r < 2 ^ 64 → AllPut r es pairs)
    → RestPut fits room fs pair pairs
writable_by true room fs pair pairs le small more =
    let put = put_frames fs pair in
    more (left_behind room put) (fs ++ put) (omega (arith, le refl, small, length_both fs put))
writable_by false room fs pair pairs le small more = more room fs small

pub several_writable : (pairs : List Pair) (room : ℕ) (fs : List Entry) → Each AreTexts pairs
    → length (opened fs) + room < 2 ^ 64 → AllPut room fs pairs
several_writable [] room fs texts small = tt
several_writable (pair ∷ pairs) room fs texts small =
    let size = put_size fs pair in (
      texts.0,
      (λ le. put_writable fs pair (omega (arith, le, small))),
      writable_by (nat_le size room) room fs pair pairs (leb-true size room) small
          (λ r es. several_writable pairs r es texts.1),
    )
