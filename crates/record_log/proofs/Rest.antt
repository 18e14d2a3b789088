-- Bytes at rest: frames behind open gates, and a gate that is not open.
use Rattle.std.proofs.Common.{◌≡◌, ◌≢◌, inl, inr, ℕ, ◌+◌, ◌≤◌, ◌<◌, true, List, [], ◌∷◌, ◌++◌, length, get_or, take, drop, Ok, refl, sym, ◌∙◌, ap, subst, arith, append_assoc, length-append, take-append-drop}
use Rattle.std.proofs.lemmas.Bool.{cases_lt, le-ltb, lt-ltb, and_parts, and_from}
use Rattle.std.proofs.lemmas.List.{take_at, drop_at, drop_more, take_all, append-nil, take-take, get_or_at}
use Rattle.store_dev.specs.Device.{Torn}
use Rattle.record_log.specs.Kinds.{Entry, has_form, text}
use Rattle.record_log.specs.Frames.{walk, opened, all_formed, magic, reading, AtRest}
use Rattle.record_log.specs.Texts.{length-text}
use Rattle.record_log.proofs.Walk.{walk_opened, walk_closed}

pub magic_read : (bytes rest : List ℕ) → 9 < length bytes → bytes ≡ magic ++ rest
    → reading bytes ≡ walk [] 8 0 rest
unfolding reading
magic_read bytes rest long is = rw (lt-ltb _ _ long, is) refl

pub short_read : (bytes : List ℕ) → length bytes ≤ 9 → reading bytes ≡ Ok []
unfolding reading
short_read bytes short = rw (le-ltb _ _ short) refl

abbrev pub stand : List Entry → ℕ → List ℕ → List ℕ
stand fs gate tail = magic ++ (opened fs ++ (gate ∷ tail))

length-stand : (fs : List Entry) (gate : ℕ) (tail : List ℕ)
    → length (stand fs gate tail) ≡ 9 + (length (opened fs) + length tail)
length-stand fs gate tail = omega (arith, length-append (opened fs) (gate ∷ tail))

-- what stands behind a gate that is not open is not read
pub stand_read : (fs : List Entry) (gate : ℕ) (tail : List ℕ) → all_formed [] fs ≡ true → gate ≢ 1
    → reading (stand fs gate tail) ≡ Ok fs
stand_read [] gate tail formed shut = elim (cases_lt 9 (length (stand [] gate tail))) [
  | inl long ↦ magic_read (stand [] gate tail) (gate ∷ tail) long refl ∙ walk_closed [] 8 gate tail shut
  | inr short ↦ short_read (stand [] gate tail) short
]
stand_read (e ∷ fs) gate tail formed shut =
    let long : 9 < length (stand (e ∷ fs) gate tail) = omega (arith, length-stand (e ∷ fs) gate tail, length-append (text e) (opened fs), length-text e) in
    magic_read (stand (e ∷ fs) gate tail) (opened (e ∷ fs) ++ gate ∷ tail) long refl
    ∙ walk_opened (e ∷ fs) [] 8 (gate ∷ tail) formed (omega arith)
    ∙ walk_closed (e ∷ fs) (8 + length (opened (e ∷ fs))) gate tail shut

pub formed_push : (fs before : List Entry) (e : Entry) → all_formed before fs ≡ true
    → has_form (before ++ fs) e ≡ true → all_formed before (fs ++ e ∷ []) ≡ true
formed_push [] before e formed h = and_from _ _ (subst (λ (b : List Entry). has_form b e ≡ true) (append-nil before) h) refl
formed_push (f ∷ fs) before e formed h =
    let parts = and_parts _ _ formed in
    and_from _ _ parts.0 (formed_push fs (before ++ f ∷ []) e parts.1 (subst (λ (b : List Entry). has_form b e ≡ true) (sym (append_assoc before (f ∷ []) fs)) h))

pub opened_push : (fs : List Entry) (e : Entry) (rest : List ℕ)
    → opened (fs ++ e ∷ []) ++ rest ≡ opened fs ++ (1 ∷ (text e ++ rest))
opened_push [] e rest = ap (λ (l : List ℕ). 1 ∷ l) (append_assoc (text e) [] rest)
opened_push (f ∷ fs) e rest =
    ap (λ (l : List ℕ). 1 ∷ l) (append_assoc (text f) (opened (fs ++ e ∷ [])) rest ∙ ap (λ (l : List ℕ). text f ++ l) (opened_push fs e rest) ∙ sym (append_assoc (text f) (opened fs) (1 ∷ (text e ++ rest))))

pub at_rest_stands : {bytes : List ℕ} {fs : List Entry} {end : ℕ} → AtRest bytes fs end
    → bytes ≡ stand fs (get_or bytes end 0) (drop (end + 1) bytes)
at_rest_stands {bytes} {fs} {end} r = r.split ∙ ap (λ (l : List ℕ). magic ++ (opened fs ++ l)) (drop_more bytes end 0 r.inside)

pub stands_at_rest : (bytes : List ℕ) (fs : List Entry) (end gate : ℕ) (tail : List ℕ)
    → bytes ≡ stand fs gate tail → end ≡ 8 + length (opened fs) → gate ≢ 1
    → all_formed [] fs ≡ true → AtRest bytes fs end
stands_at_rest bytes fs end gate tail is place shut formed = record {
  split = is ∙ ap (λ (l : List ℕ). magic ++ (opened fs ++ l)) (sym behind);
  place = place;
  inside = omega (arith, ap length is, length-stand fs gate tail, place);
  closed = λ opens. shut (sym gate_is ∙ opens);
  formed = formed;
}
  where
    regroup : bytes ≡ (magic ++ opened fs) ++ (gate ∷ tail)
    regroup = is

    size_is : length (magic ++ opened fs) ≡ end
    size_is = omega (arith, place)

    behind : drop end bytes ≡ gate ∷ tail
    behind = ap (λ (l : List ℕ). drop end l) regroup ∙ drop_at (magic ++ opened fs) (gate ∷ tail) end size_is

    gate_is : get_or bytes end 0 ≡ gate
    gate_is = ap (λ (l : List ℕ). get_or l end 0) regroup ∙ get_or_at (magic ++ opened fs) gate tail 0 end size_is

pub at_rest_read : {bytes : List ℕ} {fs : List Entry} {end : ℕ} → AtRest bytes fs end
    → reading bytes ≡ Ok fs
at_rest_read {bytes} {fs} {end} r = ap reading (at_rest_stands r) ∙ stand_read fs (get_or bytes end 0) (drop (end + 1) bytes) r.formed r.closed

-- the front up to the gate
at_rest_front : (bytes : List ℕ) (fs : List Entry) (end : ℕ) → AtRest bytes fs end
    → take (end + 1) bytes ≡ magic ++ (opened fs ++ (get_or bytes end 0 ∷ []))
at_rest_front bytes fs end r = ap (λ (l : List ℕ). take (end + 1) l) (at_rest_stands r ∙ sym regroup) ∙ take_at front tail (end + 1) size_is
  where
    front : List ℕ
    front = magic ++ (opened fs ++ (get_or bytes end 0 ∷ []))

    tail : List ℕ
    tail = drop (end + 1) bytes

    regroup : front ++ tail ≡ stand fs (get_or bytes end 0) tail
    regroup = ap (λ (l : List ℕ). magic ++ l) (append_assoc (opened fs) (get_or bytes end 0 ∷ []) tail)

    size_is : length front ≡ end + 1
    size_is = omega (arith, r.place, length-append (opened fs) (get_or bytes end 0 ∷ []))

-- only what stands up to the gate counts
pub front_at_rest : (bytes c : List ℕ) (fs : List Entry) (end : ℕ) → AtRest bytes fs end
    → take (end + 1) c ≡ take (end + 1) bytes → AtRest c fs end
front_at_rest bytes c fs end r same = stands_at_rest c fs end (get_or bytes end 0) (drop (end + 1) c) is r.place r.closed r.formed
  where
    is : c ≡ stand fs (get_or bytes end 0) (drop (end + 1) c)
    is = sym (take-append-drop (end + 1) c) ∙ ap (λ (l : List ℕ). l ++ drop (end + 1) c) (same ∙ at_rest_front bytes fs end r) ∙ ap (λ (l : List ℕ). magic ++ l) (append_assoc (opened fs) (get_or bytes end 0 ∷ []) (drop (end + 1) c))

-- what a torn write leaves in front of its range, and behind it where that is within the old length
pub torn_front : (at n : ℕ) (old c : List ℕ) → at ≤ length old → Torn at n old c
    → take at c ≡ take at old
torn_front at n old c inside torn = sym (take-take at (length old) c inside) ∙ torn.before

pub torn_back : (at n : ℕ) (old c : List ℕ) → at + n ≤ length old → Torn at n old c
    → drop (at + n) c ≡ drop (at + n) old
torn_back at n old c inside torn = ap (λ (l : List ℕ). drop (at + n) l) (sym (take_all (length old) c (omega (arith, torn.no_longer)))) ∙ torn.after

-- a write behind the gate changes no frame
pub body_torn : (n : ℕ) (bytes c : List ℕ) (fs : List Entry) (end : ℕ) → AtRest bytes fs end
    → Torn (end + 1) n bytes c → AtRest c fs end
body_torn n bytes c fs end r torn = front_at_rest bytes c fs end r (torn_front (end + 1) n bytes c (omega (arith, r.inside)) torn)

-- bytes whose gate alone may differ
pub regated : (bytes c : List ℕ) (fs : List Entry) (end : ℕ) → AtRest bytes fs end → end < length c
    → take end c ≡ take end bytes → drop (end + 1) c ≡ drop (end + 1) bytes
    → c ≡ stand fs (get_or c end 0) (drop (end + 1) bytes)
regated bytes c fs end r long front back =
    sym (take-append-drop end c)
    ∙ ap (λ (l : List ℕ). l ++ drop end c) (front ∙ fore)
    ∙ ap (λ (l : List ℕ). (magic ++ opened fs) ++ l) (drop_more c end 0 long ∙ ap (λ (l : List ℕ). get_or c end 0 ∷ l) back)
  where
    size_is : length (magic ++ opened fs) ≡ end
    size_is = omega (arith, r.place)

    fore : take end bytes ≡ magic ++ opened fs
    fore = ap (λ (l : List ℕ). take end l) r.split ∙ take_at (magic ++ opened fs) (drop end bytes) end size_is
