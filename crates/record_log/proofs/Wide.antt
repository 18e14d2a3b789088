-- What is written as a frame is read as it, and what is read as a frame was written, for both widths of lengths.
use Rattle.std.proofs.Common.{◌≡◌, inl, inr, ℕ, suc, ◌+◌, ◌^◌, ◌<◌, ◌≤◌, ◌-◌, Bool, true, false, cond, List, [], ◌∷◌, ◌++◌, length, take, drop, Option, Some, None, refl, sym, ◌∙◌, ap, subst, arith, append_assoc, length-append, length-drop, take-append-drop}
use Rattle.std.specs.Int.{Width, w32, w64, byte_len, from_le_bytes, to_le_bytes}
use Rattle.std.proofs.lemmas.Bool.{cases_lt, cases_Bool, lt-ltb, le-ltb, ltb-true, and_parts}
use Rattle.std.proofs.lemmas.List.{take_at, drop_at, length-take}
use Rattle.std.proofs.lemmas.Nat.{le_bytes_4, le_bytes_8, from_le_bytes-to_le_bytes_4, from_le_bytes-to_le_bytes_8}
use Rattle.codes.specs.Codes.{AreBytes}
use Rattle.codes.specs.Reading.{AreBytes-drop, AreBytes-take}
use Rattle.record_log.specs.Kinds.{Entry, is_long, width_of, limit_of, has_form, form, blobs, text_in, size_in, text, size, key_len, value_len, body, entry_in, frame_in, frame_at}

-- lengths of that width below that limit
pub record IsWide (w : Width) (limit : ℕ) : Type 0 where
  pub few : byte_len w ≤ 8
  pub len : (n : ℕ) → length (to_le_bytes w n) ≡ byte_len w
  pub back : (bytes : List ℕ) → length bytes ≡ byte_len w → AreBytes bytes
      → to_le_bytes w (from_le_bytes w bytes) ≡ bytes
  pub again : (n : ℕ) → n < limit → from_le_bytes w (to_le_bytes w n) ≡ n

pub wide32 : IsWide w32 (2 ^ 32)
wide32 = record { few = omega arith; len = λ n. refl; back = λ bytes len fits. le_bytes_4 bytes _ len fits refl; again = λ n lt. from_le_bytes-to_le_bytes_4 n lt }

wide64 : IsWide w64 (2 ^ 64)
wide64 = record { few = omega arith; len = λ n. refl; back = λ bytes len fits. le_bytes_8 bytes _ len fits refl; again = λ n lt. from_le_bytes-to_le_bytes_8 n lt }

pub wide_if : (b : Bool) → IsWide (cond b w64 w32) (cond b (2 ^ 64) (2 ^ 32))
wide_if true = wide64
wide_if false = wide32

join : (a b c d r : List ℕ) → (a ++ (b ++ (c ++ d))) ++ r ≡ a ++ (b ++ (c ++ (d ++ r)))
join a b c d r = simp append_assoc

pub frame_some : (w : Width) (before : List Entry) (kind : ℕ) (tail : List ℕ)
    → 1 + (key_len w tail + value_len w tail) ≤ length (body w tail)
    → has_form before (entry_in w kind tail) ≡ true
    → frame_in w before kind tail ≡ Some (entry_in w kind tail)
unfolding frame_in
frame_some w before kind tail fits h =
    ap (λ (b : Bool). cond b None (cond (has_form before (entry_in w kind tail)) (Some (entry_in w kind tail)) None)) (le-ltb _ _ fits)
    ∙ ap (λ (b : Bool). cond b (Some (entry_in w kind tail)) None) h

pub frame_short : (w : Width) (before : List Entry) (kind : ℕ) (tail : List ℕ)
    → length (body w tail) < 1 + (key_len w tail + value_len w tail)
    → frame_in w before kind tail ≡ None
unfolding frame_in
frame_short w before kind tail short = ap (λ (b : Bool). cond b None (cond (has_form before (entry_in w kind tail)) (Some (entry_in w kind tail)) None)) (lt-ltb _ _ short)

frame_unformed : (w : Width) (before : List Entry) (kind : ℕ) (tail : List ℕ)
    → 1 + (key_len w tail + value_len w tail) ≤ length (body w tail)
    → has_form before (entry_in w kind tail) ≡ false → frame_in w before kind tail ≡ None
unfolding frame_in
frame_unformed w before kind tail fits bad =
    ap (λ (b : Bool). cond b None (cond (has_form before (entry_in w kind tail)) (Some (entry_in w kind tail)) None)) (le-ltb _ _ fits)
    ∙ ap (λ (b : Bool). cond b (Some (entry_in w kind tail)) None) bad

-- whatever is not formed stands for no frame
pub frame_bad : (w : Width) (before : List Entry) (kind : ℕ) (tail : List ℕ)
    → has_form before (entry_in w kind tail) ≡ false → frame_in w before kind tail ≡ None
frame_bad w before kind tail bad = elim (cases_lt (length (body w tail)) (1 + (key_len w tail + value_len w tail))) [
  | inl short ↦ frame_short w before kind tail short
  | inr long ↦ frame_unformed w before kind tail long bad
]

module _ (w : Width) (limit : ℕ) (wide : IsWide w limit) where
  -- what the text of a frame reads as
  pub record IsRead (tail : List ℕ) (e : Entry) (rest : List ℕ) : Type 0 where
    pub key : key_len w tail ≡ length e.key
    pub value : value_len w tail ≡ length e.value
    pub behind : body w tail ≡ e.key ++ (e.value ++ rest)
    pub whole : entry_in w e.kind tail ≡ e

  read_in : (e : Entry) (rest : List ℕ) → length e.key < limit → length e.value < limit
      → IsRead (to_le_bytes w (length e.key) ++ (to_le_bytes w (length e.value) ++ (e.key ++ (e.value ++ rest)))) e rest
  read_in e rest short_key short_value = record { key = k; value = v; behind = at_body; whole = whole }
    where
      a : List ℕ
      a = to_le_bytes w (length e.key)

      b : List ℕ
      b = to_le_bytes w (length e.value)

      tail : List ℕ
      tail = a ++ (b ++ (e.key ++ (e.value ++ rest)))

      k : key_len w tail ≡ length e.key
      k = ap (from_le_bytes w) (take_at a (b ++ (e.key ++ (e.value ++ rest))) (byte_len w) (wide.len (length e.key))) ∙ wide.again (length e.key) short_key

      behind : drop (byte_len w) tail ≡ b ++ (e.key ++ (e.value ++ rest))
      behind = drop_at a (b ++ (e.key ++ (e.value ++ rest))) (byte_len w) (wide.len (length e.key))

      v : value_len w tail ≡ length e.value
      v = ap (λ (l : List ℕ). from_le_bytes w (take (byte_len w) l)) behind ∙ ap (from_le_bytes w) (take_at b (e.key ++ (e.value ++ rest)) (byte_len w) (wide.len (length e.value))) ∙ wide.again (length e.value) short_value

      at_body : body w tail ≡ e.key ++ (e.value ++ rest)
      at_body = ap (drop (byte_len w)) behind ∙ drop_at b (e.key ++ (e.value ++ rest)) (byte_len w) (wide.len (length e.value))

      key : take (key_len w tail) (body w tail) ≡ e.key
      key = (λ i. take (k i) (at_body i)) ∙ take_at e.key (e.value ++ rest) (length e.key) refl

      value : take (value_len w tail) (drop (key_len w tail) (body w tail)) ≡ e.value
      value = (λ i. take (v i) (drop (k i) (at_body i))) ∙ ap (take (length e.value)) (drop_at e.key (e.value ++ rest) (length e.key) refl) ∙ take_at e.value rest (length e.value) refl

      whole : entry_in w e.kind tail ≡ e
      whole = λ i. record { kind = e.kind; key = key i; value = value i }

  -- the same of the text as it is written
  pub text_read : (e : Entry) (rest : List ℕ) → length e.key < limit → length e.value < limit
      → IsRead ((to_le_bytes w (length e.key) ++ (to_le_bytes w (length e.value) ++ (e.key ++ e.value))) ++ rest) e rest
  text_read e rest short_key short_value = subst (λ (l : List ℕ). IsRead l e rest) (sym (join (to_le_bytes w (length e.key)) (to_le_bytes w (length e.value)) e.key e.value rest)) (read_in e rest short_key short_value)

  again_in : (before : List Entry) (e : Entry) (rest : List ℕ) → length e.key < limit
      → length e.value < limit → has_form before e ≡ true → 1 ≤ length rest
      → frame_in w before e.kind ((to_le_bytes w (length e.key) ++ (to_le_bytes w (length e.value) ++ (e.key ++ e.value))) ++ rest) ≡ Some e
  again_in before e rest short_key short_value h more =
      let tail = (to_le_bytes w (length e.key) ++ (to_le_bytes w (length e.value) ++ (e.key ++ e.value))) ++ rest in
      let r : IsRead tail e rest = text_read e rest short_key short_value in
      frame_some w before e.kind tail (omega (arith, r.key, r.value, ap length r.behind, length-append e.key (e.value ++ rest), length-append e.value rest, more)) (ap (has_form before) r.whole ∙ h)
      ∙ ap (λ (x : Entry). Some x) r.whole

  length-text_in : (e : Entry) → length (text_in w e) ≡ size_in w e
  length-text_in e = omega (arith, wide.len (length e.key), wide.len (length e.value), length-append (to_le_bytes w (length e.key)) (to_le_bytes w (length e.value) ++ (e.key ++ e.value)), length-append (to_le_bytes w (length e.value)) (e.key ++ e.value), length-append e.key e.value)

  taken_in : (kind : ℕ) (tail : List ℕ) → AreBytes tail
      → 1 + (key_len w tail + value_len w tail) ≤ length (body w tail)
      → ((kind ∷ tail) ≡ text_in w (entry_in w kind tail) ++ drop (size_in w (entry_in w kind tail)) (kind ∷ tail)) × (size_in w (entry_in w kind tail) < length (kind ∷ tail))
  taken_in kind tail fits long = (whole ∙ ap (λ (l : List ℕ). text_in w e ++ l) (sym rest_is), omega (arith, ap length whole, length-append (text_in w e) r, length-text_in e, r_long))
    where
      a : List ℕ
      a = take (byte_len w) tail

      b : List ℕ
      b = take (byte_len w) (drop (byte_len w) tail)

      e : Entry
      e = entry_in w kind tail

      r : List ℕ
      r = drop (value_len w tail) (drop (key_len w tail) (body w tail))

      body_len : length (body w tail) ≡ length tail - byte_len w - byte_len w
      body_len = omega (arith, length-drop (byte_len w) (drop (byte_len w) tail), length-drop (byte_len w) tail)

      a_len : length a ≡ byte_len w
      a_len = omega (arith, length-take (byte_len w) tail, body_len, long)

      b_len : length b ≡ byte_len w
      b_len = omega (arith, length-take (byte_len w) (drop (byte_len w) tail), length-drop (byte_len w) tail, body_len, long)

      k_len : length e.key ≡ key_len w tail
      k_len = omega (arith, length-take (key_len w tail) (body w tail), long)

      v_len : length e.value ≡ value_len w tail
      v_len = omega (arith, length-take (value_len w tail) (drop (key_len w tail) (body w tail)), length-drop (key_len w tail) (body w tail), long)

      r_long : 1 ≤ length r
      r_long = omega (arith, length-drop (value_len w tail) (drop (key_len w tail) (body w tail)), length-drop (key_len w tail) (body w tail), long)

      k_text : to_le_bytes w (length e.key) ≡ a
      k_text = ap (to_le_bytes w) k_len ∙ wide.back a a_len (AreBytes-take (byte_len w) tail fits)

      v_text : to_le_bytes w (length e.value) ≡ b
      v_text = ap (to_le_bytes w) v_len ∙ wide.back b b_len (AreBytes-take (byte_len w) (drop (byte_len w) tail) (AreBytes-drop (byte_len w) tail fits))

      split : tail ≡ a ++ (b ++ (e.key ++ (e.value ++ r)))
      split =
          sym (take-append-drop (byte_len w) tail)
          ∙ ap (λ (l : List ℕ). a ++ l) (sym (take-append-drop (byte_len w) (drop (byte_len w) tail))
          ∙ ap (λ (l : List ℕ). b ++ l) (sym (take-append-drop (key_len w tail) (body w tail))
          ∙ ap (λ (l : List ℕ). e.key ++ l) (sym (take-append-drop (value_len w tail) (drop (key_len w tail) (body w tail))))))

      whole : (kind ∷ tail) ≡ text_in w e ++ r
      whole = ap (λ (l : List ℕ). kind ∷ l) (split ∙ sym (join a b e.key e.value r) ∙ (λ i. (sym k_text i ++ (sym v_text i ++ (e.key ++ e.value))) ++ r))

      rest_is : drop (size_in w e) (kind ∷ tail) ≡ r
      rest_is = ap (drop (size_in w e)) whole ∙ drop_at (text_in w e) r (size_in w e) (length-text_in e)

-- lengths of a frame that has its form
pub record AreShort (e : Entry) : Type 0 where
  pub key : length e.key < limit_of e.kind
  pub value : length e.value < limit_of e.kind

pub short_lens : (before : List Entry) (e : Entry) → has_form before e ≡ true → AreShort e
unfolding has_form
short_lens before e h =
    let p = and_parts (form (blobs before) e) _ h in
    let q = and_parts _ _ p.1 in
    record { key = ltb-true _ _ q.0; value = ltb-true _ _ q.1 }

-- what is written is read
pub again : (before : List Entry) (e : Entry) (rest : List ℕ) → has_form before e ≡ true
    → 1 ≤ length rest → frame_at before (text e ++ rest) ≡ Some e
unfolding text frame_at
again before e rest h more =
    let short = short_lens before e h in
    again_in (width_of e.kind) (limit_of e.kind) (wide_if (is_long e.kind)) before e rest short.key short.value h more

some : Entry → Option Entry
some e = Some e

some_is : (x y : Entry) → some x ≡ some y → x ≡ y
unfolding some
some_is x y e = cc

-- what is read was written
pub record IsTaken (before : List Entry) (bytes : List ℕ) (e : Entry) : Type 0 where
  pub is : bytes ≡ text e ++ drop (size e) bytes
  pub formed : has_form before e ≡ true
  pub room : size e < length bytes

pub taken : (before : List Entry) (bytes : List ℕ) (e : Entry) → AreBytes bytes
    → frame_at before bytes ≡ Some e → IsTaken before bytes e
unfolding text size some frame_at
taken before [] e fits found = absurd cc
taken before (kind ∷ tail) e fits found =
    let w = width_of kind in
    elim (cases_lt (length (body w tail)) (1 + (key_len w tail + value_len w tail))) [
      | inl short ↦ let none = frame_short w before kind tail short in absurd (cc (none, found))
      | inr long ↦ elim (cases_Bool (has_form before (entry_in w kind tail))) [
        | inl good ↦
            let it = frame_some w before kind tail long good in
            let t = taken_in w (limit_of kind) (wide_if (is_long kind)) kind tail (λ i. fits (suc i)) long in
            subst (IsTaken before (kind ∷ tail)) (some_is (entry_in w kind tail) e (sym it ∙ found)) (record { is = t.0; formed = good; room = t.1 })
        | inr bad ↦ let none = frame_unformed w before kind tail long bad in absurd (cc (none, found))
      ]
    ]
