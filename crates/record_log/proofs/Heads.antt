-- What the first bytes of a frame tell of it.
use Rattle.std.proofs.Common.{◌≡◌, inl, inr, ℕ, ◌+◌, ◌^◌, ◌≤◌, ◌<◌, ◌-◌, Bool, true, false, cond, List, [], ◌∷◌, ◌++◌, length, take, drop, Option, Some, None, refl, sym, ◌∙◌, ap, subst, arith, append_assoc, length-append, length-drop}
use Rattle.std.specs.Prelude.{◌&&◌, ◌≢◌, ◌==◌, min, IfNone}
use Rattle.std.specs.Int.{Width, w32, w64, byte_len, from_le_bytes, to_le_bytes}
use Rattle.std.proofs.lemmas.Bool.{cases_lt, le-ltb, lt-ltb, and_parts, and_from, and_left, and_right, eqb-true, ne_eqb}
use Rattle.std.proofs.lemmas.List.{length-take, drop-drop, drop-take, take-take, take_at, drop_at}
use Rattle.codes.specs.Codes.{took}
use Rattle.codes.specs.Reading.{some_same}
use Rattle.record_log.specs.Pieces.{read_number}
use Rattle.record_log.specs.declared.kind.TheConstants.{GENERATION}
use Rattle.record_log.specs.Kinds.{Entry, generation_after, is_long, width_of, limit_of, head_of, lens_fit, value_fits, has_form, form, blobs, text, size, key_len, value_len, body, entry_in, told, frame_at}
use Rattle.record_log.specs.declared.seat.Seat.{Seat}
use Rattle.record_log.specs.Seats.{seat_of, key_span, value_span, IsSeatOf, IsLaid}
use Rattle.record_log.specs.Texts.{length-text}
use Rattle.record_log.proofs.Wide.{wide_if, frame_some, frame_short, frame_bad}

-- a head by the width of its lengths
head_wide : (b : Bool) → cond b 17 9 ≡ 1 + (byte_len (cond b w64 w32) + byte_len (cond b w64 w32))
head_wide true = refl
head_wide false = refl

pub head_width : (kind : ℕ)
    → head_of kind ≡ 1 + (byte_len (width_of kind) + byte_len (width_of kind))
head_width kind = head_wide (is_long kind)

pub size_head : (e : Entry) → size e ≡ head_of e.kind + (length e.key + length e.value)
unfolding size
size_head e = omega (arith, head_width e.kind)

-- a number that was read, and one that was not
pub record NumberAt (w : Width) (bytes : List ℕ) (n : ℕ) (rest : List ℕ) : Type 0 where
  pub long : byte_len w ≤ length bytes
  pub is : n ≡ from_le_bytes w (take (byte_len w) bytes)
  pub behind : rest ≡ drop (byte_len w) bytes

pub number_was : (w : Width) (bytes : List ℕ) (n : ℕ) (rest : List ℕ)
    → read_number w bytes ≡ Some (n, rest) → NumberAt w bytes n rest
unfolding read_number
number_was w bytes n rest e = elim (cases_lt (length bytes) (byte_len w)) [
  | inl short ↦ let none = ap (λ (b : Bool). cond b None (took (from_le_bytes w (take (byte_len w) bytes)) (drop (byte_len w) bytes))) (lt-ltb _ _ short) in absurd (cc (none, e))
  | inr long ↦
      let some = ap (λ (b : Bool). cond b None (took (from_le_bytes w (take (byte_len w) bytes)) (drop (byte_len w) bytes))) (le-ltb _ _ long) in
      let same = some_same _ _ _ _ (sym some ∙ e) in
      record { long = long; is = sym same.0; behind = sym same.1 }
]

pub number_short : (w : Width) (bytes : List ℕ) → read_number w bytes ≡ None
    → length bytes < byte_len w
unfolding read_number
number_short w bytes e = elim (cases_lt (length bytes) (byte_len w)) [
  | inl short ↦ short
  | inr long ↦ let some = ap (λ (b : Bool). cond b None (took (from_le_bytes w (take (byte_len w) bytes)) (drop (byte_len w) bytes))) (le-ltb _ _ long) in absurd (cc (some, e))
]

-- bytes that begin with that kind and these lengths
pub record HeadOf (bytes : List ℕ) (kind k v : ℕ) : Type 0 where
  pub tail : List ℕ
  pub is : bytes ≡ kind ∷ tail
  pub key : k ≡ key_len (width_of kind) tail
  pub value : v ≡ value_len (width_of kind) tail

-- what follows the kind is shown as far as the head goes
record Follows (bytes : List ℕ) (kind : ℕ) (shown : List ℕ) : Type 0 where
  tail : List ℕ
  is : bytes ≡ kind ∷ tail
  front : shown ≡ take (length shown) tail

head_at : List ℕ → ℕ
head_at [] = 0
head_at (x ∷ xs) = x

tail_at : List ℕ → List ℕ
tail_at [] = []
tail_at (x ∷ xs) = xs

follows : (kind : ℕ) (shown bytes : List ℕ) → kind ∷ shown ≡ take (length (kind ∷ shown)) bytes
    → Follows bytes kind shown
unfolding head_at tail_at
follows kind shown [] e = absurd (cc (e))
follows kind shown (b ∷ bytes) e = record { tail = bytes; is = λ i. ap head_at (sym e) i ∷ bytes; front = ap tail_at e }

pub head_of_front : (bytes : List ℕ) (kind k v : ℕ) (shown behind rest : List ℕ)
    → kind ∷ shown ≡ take (length (kind ∷ shown)) bytes
    → read_number (width_of kind) shown ≡ Some (k, behind)
    → read_number (width_of kind) behind ≡ Some (v, rest) → HeadOf bytes kind k v
head_of_front bytes kind k v shown behind rest front first second =
    let w = width_of kind in
    let n = byte_len w in
    let f = follows kind shown bytes front in
    let a = number_was w shown k behind first in
    let b = number_was w behind v rest second in
    let m = length shown in
    let parts : m ≡ n + (m - n) = omega (arith, a.long) in
    let behind_is : behind ≡ take (m - n) (drop n f.tail) = a.behind ∙ ap (drop n) (f.front ∙ ap (λ (j : ℕ). take j f.tail) parts) ∙ drop-take n (m - n) f.tail in
    let key : take n shown ≡ take n f.tail = ap (take n) f.front ∙ take-take n m f.tail a.long in
    let long : n ≤ m - n = omega (arith, ap length a.behind, length-drop n shown, b.long) in
    let value : take n behind ≡ take n (drop n f.tail) = ap (take n) behind_is ∙ take-take n (m - n) (drop n f.tail) long in
    record { tail = f.tail; is = f.is; key = a.is ∙ ap (from_le_bytes w) key; value = b.is ∙ ap (from_le_bytes w) value }

-- where no frame stands: the bytes end within the head
pub none_empty : (before : List Entry) (bytes : List ℕ) → length bytes ≡ 0
    → frame_at before bytes ≡ None
unfolding frame_at
none_empty before [] none = refl
none_empty before (x ∷ bytes) none = absurd (omega (arith, none))

short_tail : (before : List Entry) (bytes : List ℕ) (kind : ℕ) (tail : List ℕ)
    → bytes ≡ kind ∷ tail → length tail < byte_len (width_of kind) + byte_len (width_of kind) + 1
    → frame_at before bytes ≡ None
unfolding frame_at
short_tail before bytes kind tail is short =
    let w = width_of kind in
    ap (frame_at before) is ∙ frame_short w before kind tail (omega (arith, short, length-drop (byte_len w) (drop (byte_len w) tail), length-drop (byte_len w) tail))

pub none_cut : (before : List Entry) (bytes : List ℕ) (kind : ℕ) (shown : List ℕ)
    → kind ∷ shown ≡ take (length (kind ∷ shown)) bytes
    → min 17 (length bytes) ≤ length (kind ∷ shown)
    → length shown < byte_len (width_of kind) + byte_len (width_of kind)
    → frame_at before bytes ≡ None
none_cut before bytes kind shown front long short =
    let f = follows kind shown bytes front in
    let n : byte_len (width_of kind) ≤ 8 = (wide_if (is_long kind)).few in
    short_tail before bytes kind f.tail f.is (omega (arith, n, short, long, ap length f.is))

-- they end before the lengths do
pub none_room : (before : List Entry) (bytes : List ℕ) (kind k v : ℕ) → HeadOf bytes kind k v
    → length bytes ≤ head_of kind + (k + v) → frame_at before bytes ≡ None
unfolding frame_at
none_room before bytes kind k v h small =
    let w = width_of kind in
    ap (frame_at before) h.is ∙ frame_short w before kind h.tail (omega (arith, small, head_width kind, h.key, h.value, ap length h.is, length-drop (byte_len w) (drop (byte_len w) h.tail), length-drop (byte_len w) h.tail))

-- the lengths of what is told of, where it is whole
told_key : (w : Width) (kind : ℕ) (tail : List ℕ)
    → 1 + (key_len w tail + value_len w tail) ≤ length (body w tail)
    → length (entry_in w kind tail).key ≡ key_len w tail
told_key w kind tail long = omega (arith, length-take (key_len w tail) (body w tail), long)

told_value : (w : Width) (kind : ℕ) (tail : List ℕ)
    → 1 + (key_len w tail + value_len w tail) ≤ length (body w tail)
    → length (entry_in w kind tail).value ≡ value_len w tail
told_value w kind tail long = omega (arith, length-take (value_len w tail) (drop (key_len w tail) (body w tail)), length-drop (key_len w tail) (body w tail), long)

lens_bad : (before : List Entry) (e : Entry)
    → lens_fit e.kind (length e.key) (length e.value) ≡ false → has_form before e ≡ false
unfolding has_form form
lens_bad before e bad = and_left _ _ (and_left _ _ bad)

-- or no frame of that kind has such lengths
pub none_lens : (before : List Entry) (bytes : List ℕ) (kind k v : ℕ) → HeadOf bytes kind k v
    → lens_fit kind k v ≡ false → frame_at before bytes ≡ None
unfolding frame_at
none_lens before bytes kind k v h bad =
    let w = width_of kind in
    ap (frame_at before) h.is ∙ (elim (cases_lt (length (body w h.tail)) (1 + (key_len w h.tail + value_len w h.tail))) [
      | inl short ↦ frame_short w before kind h.tail short
      | inr long ↦
          let key : length (entry_in w kind h.tail).key ≡ k = told_key w kind h.tail long ∙ sym h.key in
          let value : length (entry_in w kind h.tail).value ≡ v = told_value w kind h.tail long ∙ sym h.value in
          frame_bad w before kind h.tail (lens_bad before (entry_in w kind h.tail) ((λ i. lens_fit kind (key i) (value i)) ∙ bad))
    ])

-- else its seat is known
pub laid : (bytes : List ℕ) (at room kind k v : ℕ) → at + room ≡ length bytes → HeadOf (drop at bytes) kind k v → head_of kind + (k + v) < room → lens_fit kind k v ≡ true → k < limit_of kind → v < limit_of kind → IsLaid bytes (record { kind = kind; at = at; key_len = k; value_len = v })
laid bytes at room kind k v len h fits lens k_short v_short = record {
  stands = subst (λ (e : Entry). IsSeatOf bytes (record { kind = kind; at = at; key_len = k; value_len = v }) e) (ap told (sym h.is)) (record {
    is = λ i. record { kind = kind; at = at; key_len = sym key_is i; value_len = sym value_is i };
    key = ap (take (length e.key)) (sym key_at) ∙ ap (λ (n : ℕ). take n (body w h.tail)) (key_is ∙ h.key);
    value = ap (take (length e.value)) (sym value_at) ∙ ap (λ (n : ℕ). take n (drop (key_len w h.tail) (body w h.tail))) (value_is ∙ h.value);
    room = omega (arith, fits, len, key_is, value_is);
  });
  lens = lens;
  key = k_short;
  value = v_short;
}
  where
    w : Width
    w = width_of kind

    n : ℕ
    n = byte_len (width_of kind)

    e : Entry
    e = entry_in (width_of kind) kind h.tail

    body_len : length (body w h.tail) ≡ length h.tail - n - n
    body_len = omega (arith, length-drop n (drop n h.tail), length-drop n h.tail)

    whole : 1 + (key_len w h.tail + value_len w h.tail) ≤ length (body w h.tail)
    whole = omega (arith, body_len, head_width kind, h.key, h.value, fits, len, ap length h.is, length-drop at bytes)

    key_is : length e.key ≡ k
    key_is = told_key w kind h.tail whole ∙ sym h.key

    value_is : length e.value ≡ v
    value_is = told_value w kind h.tail whole ∙ sym h.value

    key_at : body w h.tail ≡ drop (at + head_of kind) bytes
    key_at = ap (drop n) (drop-drop n 1 (kind ∷ h.tail)) ∙ drop-drop n (1 + n) (kind ∷ h.tail) ∙ ap (drop (1 + n + n)) (sym h.is) ∙ drop-drop (1 + n + n) at bytes ∙ ap (λ (m : ℕ). drop m bytes) (omega (arith, head_width kind))

    value_at : drop (key_len w h.tail) (body w h.tail) ≡ drop (at + head_of kind + length e.key) bytes
    value_at = ap (drop (key_len w h.tail)) key_at ∙ drop-drop (key_len w h.tail) (at + head_of kind) bytes ∙ ap (λ (m : ℕ). drop (at + head_of kind + m) bytes) (sym (key_is ∙ h.key))

-- the frame that is told of counts or not by its value alone
seat_lens : (seat : Seat) (e : Entry) → seat ≡ seat_of seat.at e
    → lens_fit seat.kind seat.key_len seat.value_len ≡ true
    → lens_fit e.kind (length e.key) (length e.value) ≡ true
seat_lens seat e is fits = ap (λ (s : Seat). lens_fit s.kind s.key_len s.value_len) (sym is) ∙ fits

key_short : (seat : Seat) (e : Entry) → seat ≡ seat_of seat.at e
    → seat.key_len < limit_of seat.kind → length e.key < limit_of e.kind
key_short seat e is short = subst (λ (s : Seat). s.key_len < limit_of s.kind) is short

value_short : (seat : Seat) (e : Entry) → seat ≡ seat_of seat.at e
    → seat.value_len < limit_of seat.kind → length e.value < limit_of e.kind
value_short seat e is short = subst (λ (s : Seat). s.value_len < limit_of s.kind) is short

form_true : (before : List Entry) (e : Entry)
    → lens_fit e.kind (length e.key) (length e.value) ≡ true
    → value_fits (blobs before) e.kind e.value ≡ true → length e.key < limit_of e.kind
    → length e.value < limit_of e.kind → has_form before e ≡ true
unfolding has_form form
form_true before e lens value k v = and_from _ _ (and_from _ _ lens value) (and_from _ _ (lt-ltb _ _ k) (lt-ltb _ _ v))

form_false : (before : List Entry) (e : Entry) → value_fits (blobs before) e.kind e.value ≡ false
    → has_form before e ≡ false
unfolding has_form form
form_false before e bad = and_left _ _ (and_right _ _ bad)

whole_told : (kind : ℕ) (tail : List ℕ)
    → head_of kind + (length (entry_in (width_of kind) kind tail).key + length (entry_in (width_of kind) kind tail).value) < length (kind ∷ tail)
    → 1 + (key_len (width_of kind) tail + value_len (width_of kind) tail) ≤ length (body (width_of kind) tail)
whole_told kind tail room =
    let w = width_of kind in
    let n = byte_len w in
    omega (arith, room, head_width kind, length-take (key_len w tail) (body w tail), length-take (value_len w tail) (drop (key_len w tail) (body w tail)), length-drop (key_len w tail) (body w tail), length-drop n (drop n tail), length-drop n tail)

found_in : (before : List Entry) (bytes : List ℕ)
    → head_of (told bytes).kind + (length (told bytes).key + length (told bytes).value) < length bytes
    → has_form before (told bytes) ≡ true → frame_at before bytes ≡ Some (told bytes)
unfolding frame_at
found_in before [] room h = absurd (omega (arith, room))
found_in before (kind ∷ tail) room h = frame_some (width_of kind) before kind tail (whole_told kind tail room) h

bad_in : (before : List Entry) (bytes : List ℕ) → has_form before (told bytes) ≡ false
    → frame_at before bytes ≡ None
unfolding frame_at
bad_in before [] h = refl
bad_in before (kind ∷ tail) h = frame_bad (width_of kind) before kind tail h

pub laid_found : (bytes : List ℕ) (before : List Entry) (seat : Seat) → IsLaid bytes seat
    → value_fits (blobs before) (told (drop seat.at bytes)).kind (told (drop seat.at bytes)).value ≡ true
    → frame_at before (drop seat.at bytes) ≡ Some (told (drop seat.at bytes))
laid_found bytes before seat x fits =
    let e = told (drop seat.at bytes) in
    let is = x.stands.is in
    found_in before (drop seat.at bytes) (omega (arith, x.stands.room, length-drop seat.at bytes)) (form_true before e (seat_lens seat e is x.lens) fits (key_short seat e is x.key) (value_short seat e is x.value))

pub laid_none : (bytes : List ℕ) (before : List Entry) (seat : Seat)
    → value_fits (blobs before) (told (drop seat.at bytes)).kind (told (drop seat.at bytes)).value ≡ false
    → frame_at before (drop seat.at bytes) ≡ None
laid_none bytes before seat bad = bad_in before (drop seat.at bytes) (form_false before (told (drop seat.at bytes)) bad)

-- the text of a frame: its head, its key and its value
pub head_text : Entry → List ℕ
head_text e = e.kind ∷ (to_le_bytes (width_of e.kind) (length e.key) ++ to_le_bytes (width_of e.kind) (length e.value))

length-head_text : (e : Entry) → length (head_text e) ≡ head_of e.kind
unfolding head_text
length-head_text e =
    let wide = wide_if (is_long e.kind) in
    omega (arith, head_width e.kind, wide.len (length e.key), wide.len (length e.value), length-append (to_le_bytes (width_of e.kind) (length e.key)) (to_le_bytes (width_of e.kind) (length e.value)))

text_head : (e : Entry) (more : List ℕ)
    → text e ++ more ≡ head_text e ++ (e.key ++ (e.value ++ more))
unfolding text head_text
text_head e more = simp append_assoc

-- what a frame of kind 5 tells
pub generation_len : (contents : ℕ) (e : Entry) → e.kind ≡ GENERATION → form contents e ≡ true
    → length e.key ≡ 8
unfolding form
generation_len contents e is h =
    let p = and_parts _ _ h in
    let q : ((length e.key == 8) && (length e.value == 0)) ≡ true = sym (ap (λ (k : ℕ). lens_fit k (length e.key) (length e.value)) is) ∙ p.0 in
    eqb-true _ _ (and_parts _ _ q).0

pub lens_of_5 : (kind k v : ℕ) → kind ≡ GENERATION → lens_fit kind k v ≡ true → k ≡ 8
lens_of_5 kind k v is h =
    let q : ((k == 8) && (v == 0)) ≡ true = sym (ap (λ (j : ℕ). lens_fit j k v) is) ∙ h in
    eqb-true _ _ (and_parts _ _ q).0

pub generation_is : (last : ℕ) (e : Entry) → e.kind ≡ GENERATION
    → generation_after last e ≡ from_le_bytes w64 e.key
generation_is last e is = ap (λ (k : ℕ). cond (k == 5) (from_le_bytes w64 e.key) last) is

pub generation_other : (last : ℕ) (e : Entry) → e.kind ≢ GENERATION
    → generation_after last e ≡ last
generation_other last e other = ap (λ (b : Bool). cond b (from_le_bytes w64 e.key) last) (ne_eqb e.kind 5 other)

-- where its parts stand, as far as told bytes go no sum is too large
pub key_at : (bytes : List ℕ) (seat : Seat) (e : Entry) → IsSeatOf bytes seat e
    → length bytes < 2 ^ 63 → (key_span seat).at ≡ seat.at + head_of e.kind
key_at bytes seat e x few = omega (arith, x.room, few, ap (λ (s : Seat). head_of s.kind) x.is)

pub value_at : (bytes : List ℕ) (seat : Seat) (e : Entry) → IsSeatOf bytes seat e
    → length bytes < 2 ^ 63 → (value_span seat).at ≡ seat.at + head_of e.kind + length e.key
value_at bytes seat e x few = omega (arith, x.room, few, ap (λ (s : Seat). head_of s.kind) x.is, ap (λ (s : Seat). s.key_len) x.is)

pub key_shown : (bytes : List ℕ) (seat : Seat) (e : Entry) → IsSeatOf bytes seat e
    → length bytes < 2 ^ 63 → take seat.key_len (drop (key_span seat).at bytes) ≡ e.key
key_shown bytes seat e x few = (λ i. take (x.is i).key_len (drop (key_at bytes seat e x few i) bytes)) ∙ x.key

pub value_shown : (bytes : List ℕ) (seat : Seat) (e : Entry) → IsSeatOf bytes seat e
    → length bytes < 2 ^ 63 → take seat.value_len (drop (value_span seat).at bytes) ≡ e.value
value_shown bytes seat e x few = (λ i. take (x.is i).value_len (drop (value_at bytes seat e x few i) bytes)) ∙ x.value

-- a frame that stands in bytes has its seat there
pub seat_there : (bytes front more : List ℕ) (at : ℕ) (e : Entry)
    → bytes ≡ front ++ (text e ++ more) → length front ≡ at → 1 ≤ length more
    → IsSeatOf bytes (seat_of at e) e
seat_there bytes front more at e is place some = record {
  is = refl;
  key = ap (take (length e.key)) key_at ∙ take_at e.key (e.value ++ more) (length e.key) refl;
  value = ap (take (length e.value)) value_at ∙ take_at e.value more (length e.value) refl;
  room = omega (arith, ap length is, length-append front (text e ++ more), length-append (text e) more, length-text e, size_head e, place, some);
}
  where
    here : drop at bytes ≡ head_text e ++ (e.key ++ (e.value ++ more))
    here = ap (drop at) is ∙ drop_at front (text e ++ more) at place ∙ text_head e more

    key_at : drop (at + head_of e.kind) bytes ≡ e.key ++ (e.value ++ more)
    key_at = sym (drop-drop (head_of e.kind) at bytes) ∙ ap (drop (head_of e.kind)) here ∙ drop_at (head_text e) (e.key ++ (e.value ++ more)) (head_of e.kind) (length-head_text e)

    value_at : drop (at + head_of e.kind + length e.key) bytes ≡ e.value ++ more
    value_at = sym (drop-drop (length e.key) (at + head_of e.kind) bytes) ∙ ap (drop (length e.key)) key_at ∙ drop_at e.key (e.value ++ more) (length e.key) refl

-- what a call says where it found nothing
pub from_none : {T : Type 0} (o : Option T) (P : Type 0) → IfNone o P → ((x : T) → o ≡ Some x → ⊥)
    → P
from_none None P p none = p
from_none (Some x) P p none = absurd (none x refl)
