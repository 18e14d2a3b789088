-- The key of a content has 32 bytes.
use Rattle.std.proofs.Common.{◌≡◌, ℕ, zero, suc, ◌+◌, ◌<◌, Bool, true, false, cond, List, [], ◌∷◌, ◌++◌, length, drop, take, get_or, Option, Some, None, Ok, Err, refl, sym, ◌∙◌, ap, subst, arith}
use Rattle.std.specs.Prelude.{◌||◌, ◌==◌, nat_lt, bytes_eq, Result}
use Rattle.std.specs.Int.{Width}
use Rattle.std.proofs.lemmas.Bool.{and_parts, eqb-true}
use Rattle.std.proofs.lemmas.List.{get_or_default}
use Rattle.record_log.specs.declared.kind.TheConstants.{CONTENT, DIGEST_BYTES}
use Rattle.record_log.specs.Kinds.{Entry, form, has_form, lens_fit, size, width_of, key_len, value_len, body, entry_in, frame_in, frame_at}
use Rattle.record_log.specs.Frames.{walk, reading, magic, Fault, IsAt}
use Rattle.record_log.specs.Frames.Fault.{NotAStore, Damaged}

by_length : (b : Bool) → (b || false) ≡ true → b ≡ true
by_length true is = refl
by_length false is = is

fits_length : (kind key value : ℕ) → kind ≡ CONTENT → lens_fit kind key value ≡ true
    → key ≡ DIGEST_BYTES
fits_length kind key value is fits =
    eqb-true key DIGEST_BYTES (by_length (key == DIGEST_BYTES) (ap (λ (k : ℕ). lens_fit k key value) (sym is) ∙ fits))

key_length : (before : List Entry) (e : Entry) → e.kind ≡ CONTENT → has_form before e ≡ true
    → length e.key ≡ DIGEST_BYTES
unfolding form has_form
key_length before e is formed =
    fits_length e.kind (length e.key) (length e.value) is (and_parts _ _ (and_parts _ _ formed).0).0

taken_by : (before : List Entry) (x e : Entry) (short good : Bool) → has_form before x ≡ good
    → cond short None (cond good (Some x) None) ≡ Some e → has_form before e ≡ true
taken_by before x e true good formed is = absurd (cc)
taken_by before x e false false formed is = absurd (cc)
taken_by before x e false true formed is =
    let same : x ≡ e = cc in subst (λ (y : Entry). has_form before y ≡ true) same formed

taken_in : (w : Width) (before : List Entry) (kind : ℕ) (tail : List ℕ) (e : Entry)
    → frame_in w before kind tail ≡ Some e → has_form before e ≡ true
unfolding frame_in
taken_in w before kind tail e is =
    taken_by before (entry_in w kind tail) e (nat_lt (length (body w tail)) (1 + (key_len w tail + value_len w tail))) (has_form before (entry_in w kind tail)) refl is

taken : (before : List Entry) (bytes : List ℕ) (e : Entry) → frame_at before bytes ≡ Some e
    → has_form before e ≡ true
unfolding frame_at
taken before [] e is = absurd (cc)
taken before (kind ∷ tail) e is = taken_in (width_of kind) before kind tail e is

-- each content among the frames has such a key
abbrev pub KeysFit : List Entry → Type 0
KeysFit es =
    (i : ℕ) (d : Entry) → i < length es → (get_or es i d).kind ≡ CONTENT → length (get_or es i d).key ≡ DIGEST_BYTES

one_more : (es : List Entry) (e : Entry) → KeysFit es
    → (e.kind ≡ CONTENT → length e.key ≡ DIGEST_BYTES) → KeysFit (es ++ e ∷ [])
one_more [] e fit one zero d lt kind = one kind
one_more [] e fit one (suc i) d lt kind = absurd (omega arith)
one_more (x ∷ es) e fit one zero d lt kind = fit zero d (omega arith) kind
one_more (x ∷ es) e fit one (suc i) d lt kind =
    one_more es e (λ j f less. fit (suc j) f (omega arith)) one i d (omega arith) kind

ended : (xs ys : List Entry) (r : Result (List Entry) Fault) → r ≡ Ok xs → r ≡ Ok ys → xs ≡ ys
ended xs ys r was is = cc

-- a gate, and what stands behind it where it is open
walked_by : (b : Bool) (before es : List Entry) (at : ℕ) (rest : List ℕ) (o : Option Entry)
    → frame_at before rest ≡ o
    → ((skip to : ℕ) (more fs : List Entry) → walk more to skip rest ≡ Ok fs → KeysFit more → KeysFit fs)
    → KeysFit before
    → cond {A = Result (List Entry) Fault} b (elim o [ Some e ↦ walk (before ++ e ∷ []) (at + 1) (size e) rest | None ↦ Err (Damaged (at + 1)) ]) (Ok before) ≡ Ok es
    → KeysFit es
walked_by false before es at rest o found further fit is =
    subst KeysFit (ended before es _ refl is) fit
walked_by true before es at rest None found further fit is = absurd (cc)
walked_by true before es at rest (Some e) found further fit is =
    further (size e) (at + 1) (before ++ e ∷ []) es is (one_more before e fit (λ kind. key_length before e kind (taken before rest e found)))

walked : (bytes : List ℕ) (skip at : ℕ) (before es : List Entry) → walk before at skip bytes ≡ Ok es
    → KeysFit before → KeysFit es
walked [] zero at before es is fit = subst KeysFit (ended before es _ refl is) fit
walked [] (suc skip) at before es is fit = subst KeysFit (ended before es _ refl is) fit
walked (x ∷ rest) (suc skip) at before es is fit = walked rest skip (at + 1) before es is fit
walked (gate ∷ rest) zero at before es is fit =
    walked_by (gate == 1) before es at rest (frame_at before rest) refl (walked rest) fit is

pub keys_fit : (bytes : List ℕ) (es : List Entry) → reading bytes ≡ Ok es → KeysFit es
unfolding reading
keys_fit bytes es is = by (nat_lt 9 (length bytes)) (bytes_eq (take 8 bytes) magic) is
  where
    none : KeysFit []
    none i d lt kind = absurd (omega arith)

    by : (long good : Bool) → cond {A = Result (List Entry) Fault} long (cond good (walk [] 8 0 (drop 8 bytes)) (Err NotAStore)) (Ok []) ≡ Ok es → KeysFit es
    by false good is = subst KeysFit (ended [] es _ refl is) none
    by true false is = absurd (cc)
    by true true is = walked (drop 8 bytes) 0 8 [] es is none

pub entry_at : (es : List Entry) (number : ℕ) (d : Entry) → number < length es
    → IsAt es number (get_or es number d)
entry_at es number d lt = (lt, get_or_default es number d (get_or es number d) lt)

pub key_fits : (bytes : List ℕ) (es : List Entry) (number : ℕ) (e : Entry) → reading bytes ≡ Ok es
    → IsAt es number e → e.kind ≡ CONTENT → length e.key ≡ DIGEST_BYTES
key_fits bytes es number e is at kind =
    ap (λ (x : Entry). length x.key) at.1
    ∙ keys_fit bytes es is number e at.0 (ap (λ (x : Entry). x.kind) (sym at.1) ∙ kind)
