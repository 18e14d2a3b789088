-- Frames one after another: their bytes and forms, and what stays where it is as more frames follow.
use Rattle.std.proofs.Common.{◌≡◌, ℕ, zero, suc, ◌+◌, ◌≤◌, ◌<◌, Bool, true, false, cond, List, [], ◌∷◌, ◌++◌, length, get_or, take, drop, refl, sym, ◌∙◌, ap, subst, arith, append_assoc, length-append, length-drop}
use Rattle.std.specs.Prelude.{◌&&◌, ◌==◌, sum_by}
use Rattle.std.specs.Int.{w32, w64, byte_len, to_le_bytes}
use Rattle.std.proofs.Math.Bool.{and_assoc}
use Rattle.std.proofs.lemmas.Bool.{and_parts, and_from}
use Rattle.std.proofs.lemmas.List.{append-nil, take-append-le, drop-append-le}
use Rattle.std.proofs.lemmas.List.Sums.{sum_by-append}
use Rattle.rel_path.specs.declared.span.Span.{Span}
use Rattle.record_log.specs.declared.kind.TheConstants.{CONTENT}
use Rattle.record_log.specs.Kinds.{Entry, is_long, width_of, has_form, blobs_in, blobs, text, size}
use Rattle.record_log.specs.Seats.{IsWithin, IsSpanOf}
use Rattle.record_log.specs.Frames.{magic, opened, all_formed, text_of, ends, IsAt}

length-number : (long : Bool) (n : ℕ)
    → length (to_le_bytes (cond long w64 w32) n) ≡ byte_len (cond long w64 w32)
length-number true n = refl
length-number false n = refl

-- ---- how long the bytes are

pub length-text : (e : Entry) → length (text e) ≡ size e
unfolding text size
length-text e =
    let key = to_le_bytes (width_of e.kind) (length e.key) in
    let value = to_le_bytes (width_of e.kind) (length e.value) in
    omega (arith, length-number (is_long e.kind) (length e.key), length-number (is_long e.kind) (length e.value), length-append key (value ++ (e.key ++ e.value)), length-append value (e.key ++ e.value), length-append e.key e.value)

-- what a frame takes with the gate in front of it
abbrev pub gated_size : Entry → ℕ
gated_size e = 1 + size e

pub length-opened : (es : List Entry) → length (opened es) ≡ sum_by gated_size es
length-opened [] = refl
length-opened (e ∷ es) = omega (arith, length-append (text e) (opened es), length-text e, length-opened es, sum_by-append gated_size (e ∷ []) es)

-- ---- frames behind frames

pub opened_append : (es fs : List Entry) → opened (es ++ fs) ≡ opened es ++ opened fs
opened_append [] fs = refl
opened_append (e ∷ es) fs = ap (λ (l : List ℕ). 1 ∷ l) (ap (λ (l : List ℕ). text e ++ l) (opened_append es fs) ∙ sym (append_assoc (text e) (opened es) (opened fs)))

pub text_of_append : (es fs : List Entry) → text_of (es ++ fs) ≡ text_of es ++ opened fs
text_of_append es fs = ap (λ (l : List ℕ). magic ++ l) (opened_append es fs)

pub ends_append : (es fs : List Entry) → ends (es ++ fs) ≡ ends es + length (opened fs)
ends_append es fs = omega (arith, ap length (opened_append es fs), length-append (opened es) (opened fs))

pub blobs_in_append : (es fs : List Entry) → blobs_in (es ++ fs) ≡ blobs_in es ++ blobs_in fs
blobs_in_append [] fs = refl
blobs_in_append (e ∷ es) fs = elim (e.kind == CONTENT) as (λ (b : Bool). cond b (e ∷ blobs_in (es ++ fs)) (blobs_in (es ++ fs)) ≡ cond b (e ∷ blobs_in es) (blobs_in es) ++ blobs_in fs) [
  | true ↦ ap (λ (l : List Entry). e ∷ l) (blobs_in_append es fs)
  | false ↦ blobs_in_append es fs
]

pub blobs_append : (es fs : List Entry) → blobs (es ++ fs) ≡ blobs es + blobs fs
unfolding blobs
blobs_append es fs = omega (arith, ap length (blobs_in_append es fs), length-append (blobs_in es) (blobs_in fs))

-- ---- forms

pub all_formed_append : (before es fs : List Entry)
    → all_formed before (es ++ fs) ≡ (all_formed before es && all_formed (before ++ es) fs)
all_formed_append before [] fs = ap (λ (b : List Entry). all_formed b fs) (sym (append-nil before))
all_formed_append before (e ∷ es) fs =
    ap (λ (b : Bool). has_form before e && b) (all_formed_append (before ++ e ∷ []) es fs ∙ ap (λ (b : List Entry). all_formed (before ++ e ∷ []) es && all_formed b fs) (append_assoc before (e ∷ []) es))
    ∙ sym (and_assoc (has_form before e) (all_formed (before ++ e ∷ []) es) (all_formed (before ++ e ∷ es) fs))

pub formed_append : (es before fs : List Entry) → all_formed before es ≡ true
    → all_formed (before ++ es) fs ≡ true → all_formed before (es ++ fs) ≡ true
formed_append es before fs formed more = all_formed_append before es fs ∙ and_from _ _ formed more

-- the first of them, and those behind them
pub formed_front : (before es fs : List Entry) → all_formed before (es ++ fs) ≡ true
    → all_formed before es ≡ true
formed_front before es fs formed = (and_parts _ _ (sym (all_formed_append before es fs) ∙ formed)).0

pub formed_back : (before es fs : List Entry) → all_formed before (es ++ fs) ≡ true
    → all_formed (before ++ es) fs ≡ true
formed_back before es fs formed = (and_parts _ _ (sym (all_formed_append before es fs) ∙ formed)).1

formed_from : (before es : List Entry) (n : ℕ) (d : Entry) → all_formed before es ≡ true
    → n < length es → has_form (before ++ take n es) (get_or es n d) ≡ true
formed_from before [] n d formed lt = absurd (omega arith)
formed_from before (e ∷ es) zero d formed lt = subst (λ (b : List Entry). has_form b e ≡ true) (sym (append-nil before)) (and_parts _ _ formed).0
formed_from before (e ∷ es) (suc n) d formed lt =
    let more = formed_from (before ++ e ∷ []) es n d (and_parts _ _ formed).1 (omega arith) in
    subst (λ (b : List Entry). has_form b (get_or es n d) ≡ true) (append_assoc before (e ∷ []) (take n es)) more

-- a frame of a store has its form behind those before it
pub formed_at : (es : List Entry) (number : ℕ) (e : Entry) → all_formed [] es ≡ true
    → IsAt es number e → has_form (take number es) e ≡ true
formed_at es number e formed at = subst (λ (x : Entry). has_form (take number es) x ≡ true) (sym at.1) (formed_from [] es number e formed at.0)

-- ---- ranges

-- what stands within the front of bytes
pub shown_front : (bytes front rest : List ℕ) (at n : ℕ) → bytes ≡ front ++ rest
    → at + n ≤ length front → take n (drop at bytes) ≡ take n (drop at front)
shown_front bytes front rest at n is inside =
    ap (λ (l : List ℕ). take n (drop at l)) is
    ∙ ap (take n) (drop-append-le at front rest (omega (arith, inside)))
    ∙ take-append-le n (drop at front) rest (omega (arith, inside, length-drop at front))

-- a range stays within the text as frames are added, and shows what it showed
pub within_added : (es fs : List Entry) (at n : ℕ) → IsWithin (text_of es) at n
    → IsWithin (text_of (es ++ fs)) at n
within_added es fs at n x = record {
  behind = x.behind;
  inside = omega (arith, x.inside, ap length (text_of_append es fs), length-append (text_of es) (opened fs));
}

pub shown_added : (es fs : List Entry) (at n : ℕ) → IsWithin (text_of es) at n
    → take n (drop at (text_of (es ++ fs))) ≡ take n (drop at (text_of es))
shown_added es fs at n x = shown_front (text_of (es ++ fs)) (text_of es) (opened fs) at n (text_of_append es fs) x.inside

pub span_added : (es fs : List Entry) (span : Span) (bytes : List ℕ)
    → IsSpanOf (text_of es) span bytes → IsSpanOf (text_of (es ++ fs)) span bytes
span_added es fs span bytes x = record {
  within = within_added es fs span.at span.len x.within;
  len = x.len;
  shows = shown_added es fs span.at span.len x.within ∙ x.shows;
}
