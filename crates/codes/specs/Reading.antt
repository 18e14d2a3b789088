-- Each reader is the inverse of its code, so that codes tell values apart. With the steps of loops that read and write items.
use Rattle.std.proofs.Common.{◌≡◌, inl, inr, ℕ, zero, suc, ◌+◌, ◌<◌, ◌≤◌, ◌^◌, Bool, cond, List, [], ◌∷◌, ◌++◌, length, take, drop, Some, None, refl, sym, ◌∙◌, ap, subst, arith, append_assoc, length-append, take-append-drop}
use Rattle.std.specs.Prelude.{nat_lt}
use Rattle.std.specs.Int.{Width, w32, w64, byte_len, from_le_bytes, to_le_bytes}
use Rattle.std.proofs.lemmas.Bool.{cases_lt, le-ltb, lt-ltb}
use Rattle.std.proofs.lemmas.List.{take_at, drop_at, append-nil, length-take, get_or-drop, get_or-take, get_or_past}
use Rattle.std.proofs.lemmas.Nat.{from_le_bytes-to_le_bytes_4, from_le_bytes-to_le_bytes_8, le_bytes_4, le_bytes_8}
use Rattle.codes.specs.Codes.{AreBytes, Taken, took, Reads, Separates, then_read, word, IsWord, read_word, str, IsShort, read_bytes, read_str, items, list, read_items, read_list, Each, IsList, long_word, IsLongWord, read_long_word, long_str, IsLong, read_long_str, long_list, read_long_list, IsLongList, both, read_both, AreBoth}

pub AreBytes-drop : (n : ℕ) (bytes : List ℕ) → AreBytes bytes → AreBytes (drop n bytes)
AreBytes-drop n bytes h i = rw get_or-drop (h (n + i))

pub AreBytes-take : (n : ℕ) (bytes : List ℕ) → AreBytes bytes → AreBytes (take n bytes)
AreBytes-take n bytes h i =
    elim (cases_lt i n) [
      | inl lt ↦ rw (get_or-take n bytes i 0 lt) (h i)
      | inr le ↦ rw (get_or_past (take n bytes) i 0 (omega (arith, length-take n bytes))) (omega arith)
    ]

-- what stands behind a part
pub AreBytes-behind : (x rest bytes : List ℕ) → AreBytes bytes → bytes ≡ x ++ rest → AreBytes rest
AreBytes-behind x rest bytes h is = subst AreBytes (ap (drop (length x)) is ∙ drop_at x rest (length x) refl) (AreBytes-drop (length x) bytes h)

abbrev first_of : {A : Type 0} → A → Taken A → A
first_of x None = x
first_of x (Some p) = p.0

abbrev rest_of : {A : Type 0} → List ℕ → Taken A → List ℕ
rest_of r None = r
rest_of r (Some p) = p.1

pub some_same : {A : Type 0} (x y : A) (r s : List ℕ) → took x r ≡ took y s → (x ≡ y) × (r ≡ s)
some_same {A = A} x y r s e = (ap (first_of x) e, ap (rest_of r) e)

-- a reader after a reader
pub then_was : {A B : Type 0} (first : Taken A) (next : A → List ℕ → Taken B) (y : B) (rest : List ℕ) → then_read first next ≡ Some (y, rest) → (x : A) × (mid : List ℕ) × (first ≡ Some (x, mid)) × (next x mid ≡ Some (y, rest))
then_was None next y rest e = absurd (cc)
then_was (Some p) next y rest e = (p.0, p.1, refl, e)

pub then_is : {A B : Type 0} (first : Taken A) (next : A → List ℕ → Taken B) (x : A) (mid : List ℕ) → first ≡ Some (x, mid) → then_read first next ≡ next x mid
then_is {A = A} first next x mid e = ap (λ (t : Taken A). then_read t next) e

-- a code that is read tells values apart
pub reads_separates : {A : Type 0} {code : A → List ℕ} {Fits : A → Type 0} {read : List ℕ → Taken A} → Reads code Fits read → Separates code Fits
reads_separates {A} {code} {Fits} {read} ra x y r s fx fy e = some_same x y r s (sym (ra.again x r fx) ∙ ap read e ∙ ra.again y s fy)

-- what is known of the bytes of numbers of one width
pub record IsWide (w : Width) (limit : ℕ) : Type 0 where
  pub len : (n : ℕ) → length (to_le_bytes w n) ≡ byte_len w
  pub back : (bytes : List ℕ) → length bytes ≡ byte_len w → AreBytes bytes → to_le_bytes w (from_le_bytes w bytes) ≡ bytes
  pub again : (n : ℕ) → n < limit → from_le_bytes w (to_le_bytes w n) ≡ n
  pub below : (bytes : List ℕ) → length bytes ≡ byte_len w → AreBytes bytes → from_le_bytes w bytes < limit

below_4 : (bytes : List ℕ) → length bytes ≡ 4 → AreBytes bytes → from_le_bytes w32 bytes < 2 ^ 32
below_4 bytes len fits = omega (arith, len, fits 0, fits 1, fits 2, fits 3)

below_8 : (bytes : List ℕ) → length bytes ≡ 8 → AreBytes bytes → from_le_bytes w64 bytes < 2 ^ 64
below_8 bytes len fits = omega (arith, len, fits 0, fits 1, fits 2, fits 3, fits 4, fits 5, fits 6, fits 7)

wide_4 : IsWide w32 (2 ^ 32)
wide_4 = record { len = λ n. refl; back = λ bytes len fits. le_bytes_4 bytes _ len fits refl; again = λ n lt. from_le_bytes-to_le_bytes_4 n lt; below = below_4 }

wide_8 : IsWide w64 (2 ^ 64)
wide_8 = record { len = λ n. refl; back = λ bytes len fits. le_bytes_8 bytes _ len fits refl; again = λ n lt. from_le_bytes-to_le_bytes_8 n lt; below = below_8 }

-- a number of that width
abbrev number_in : Width → List ℕ → Taken ℕ
number_in w bytes = cond (nat_lt (length bytes) (byte_len w)) None (took (from_le_bytes w (take (byte_len w) bytes)) (drop (byte_len w) bytes))

number_long : (w : Width) (bytes : List ℕ) → byte_len w ≤ length bytes → number_in w bytes ≡ took (from_le_bytes w (take (byte_len w) bytes)) (drop (byte_len w) bytes)
number_long w bytes long = ap (λ (b : Bool). cond b None (took (from_le_bytes w (take (byte_len w) bytes)) (drop (byte_len w) bytes))) (le-ltb _ _ long)

number_short : (w : Width) (bytes : List ℕ) → length bytes < byte_len w → number_in w bytes ≡ None
number_short w bytes short = ap (λ (b : Bool). cond b None (took (from_le_bytes w (take (byte_len w) bytes)) (drop (byte_len w) bytes))) (lt-ltb _ _ short)

number_reads : (w : Width) (limit : ℕ) → IsWide w limit → Reads (to_le_bytes w) (λ n. n < limit) (number_in w)
number_reads w limit wide = record { again = again; was = λ b x r f e. (was b x r f e).0; fits = λ b x r f e. (was b x r f e).1 }
  where
    again : (x : ℕ) (rest : List ℕ) → x < limit → number_in w (to_le_bytes w x ++ rest) ≡ Some (x, rest)
    again x rest fits =
        number_long w (to_le_bytes w x ++ rest) (omega (arith, wide.len x, length-append (to_le_bytes w x) rest))
        ∙ (λ i. Some ((ap (from_le_bytes w) (take_at (to_le_bytes w x) rest (byte_len w) (wide.len x)) ∙ wide.again x fits) i, drop_at (to_le_bytes w x) rest (byte_len w) (wide.len x) i))

    was : (bytes : List ℕ) (x : ℕ) (rest : List ℕ) → AreBytes bytes → number_in w bytes ≡ Some (x, rest) → (bytes ≡ to_le_bytes w x ++ rest) × (x < limit)
    was bytes x rest fits e = elim (cases_lt (length bytes) (byte_len w)) [
      | inl short ↦ let none = number_short w bytes short in absurd (cc (none, e))
      | inr long ↦
          let same = some_same _ _ _ _ (sym (number_long w bytes long) ∙ e) in
          let front = AreBytes-take (byte_len w) bytes fits in
          let len : length (take (byte_len w) bytes) ≡ byte_len w = omega (arith, length-take (byte_len w) bytes, long) in
          let back : to_le_bytes w x ≡ take (byte_len w) bytes = ap (to_le_bytes w) (sym same.0) ∙ wide.back (take (byte_len w) bytes) len front in
          (sym (take-append-drop (byte_len w) bytes) ∙ (λ i. sym back i ++ same.1 i), subst (λ (n : ℕ). n < limit) same.0 (wide.below (take (byte_len w) bytes) len front))
    ]

pub word_reads : Reads word IsWord read_word
unfolding word read_word
word_reads = number_reads w32 (2 ^ 32) wide_4

pub long_word_reads : Reads long_word IsLongWord read_long_word
unfolding long_word read_long_word
long_word_reads = number_reads w64 (2 ^ 64) wide_8

bytes_again : (x rest : List ℕ) → read_bytes (length x) (x ++ rest) ≡ Some (x, rest)
bytes_again x rest =
    ap (λ (b : Bool). cond b None (took (take (length x) (x ++ rest)) (drop (length x) (x ++ rest)))) (le-ltb _ _ (simp length-append (omega arith)))
    ∙ (λ i. Some (take_at x rest (length x) refl i, drop_at x rest (length x) refl i))

bytes_was : (n : ℕ) (bytes x rest : List ℕ) → read_bytes n bytes ≡ Some (x, rest) → (bytes ≡ x ++ rest) × (length x ≡ n)
bytes_was n bytes x rest e = elim (cases_lt (length bytes) n) [
  | inl short ↦ let none = ap (λ (b : Bool). cond b None (took (take n bytes) (drop n bytes))) (lt-ltb _ _ short) in absurd (cc (none, e))
  | inr long ↦
      let some = ap (λ (b : Bool). cond b None (took (take n bytes) (drop n bytes))) (le-ltb _ _ long) in
      let same = some_same _ _ _ _ (sym some ∙ e) in
      (sym (take-append-drop n bytes) ∙ (λ i. same.0 i ++ same.1 i), omega (arith, length-take n bytes, ap length same.0))
]

-- bytes behind their length, by any code of lengths below a limit
counted_reads : (limit : ℕ) (code : ℕ → List ℕ) (read : List ℕ → Taken ℕ) → Reads code (λ n. n < limit) read
    → Reads (λ (x : List ℕ). code (length x) ++ x) (λ x. length x < limit) (λ bytes. then_read (read bytes) read_bytes)
counted_reads limit code read reads = record { again = again; was = λ b x r f e. (was b x r f e).0; fits = λ b x r f e. (was b x r f e).1 }
  where
    again : (x rest : List ℕ) → length x < limit → then_read (read ((code (length x) ++ x) ++ rest)) read_bytes ≡ Some (x, rest)
    again x rest fits = then_is _ read_bytes (length x) (x ++ rest) (ap read (append_assoc (code (length x)) x rest) ∙ reads.again (length x) (x ++ rest) fits) ∙ bytes_again x rest

    was : (bytes x rest : List ℕ) → AreBytes bytes → then_read (read bytes) read_bytes ≡ Some (x, rest) → (bytes ≡ (code (length x) ++ x) ++ rest) × (length x < limit)
    was bytes x rest fits e =
        let (n, mid, first, next) = then_was (read bytes) read_bytes x rest e in
        let front = reads.was bytes n mid fits first in
        let lt = reads.fits bytes n mid fits first in
        let (back, len) = bytes_was n mid x rest next in
        (front ∙ (λ i. code (sym len i) ++ back i) ∙ sym (append_assoc (code (length x)) x rest), subst (λ (m : ℕ). m < limit) (sym len) lt)

pub str_reads : Reads str IsShort read_str
unfolding read_str str
str_reads = counted_reads (2 ^ 32) word read_word word_reads

pub long_str_reads : Reads long_str IsLong read_long_str
unfolding read_long_str long_str
long_str_reads = counted_reads (2 ^ 64) long_word read_long_word long_word_reads

pub both_reads : {A B : Type 0} (a : A → List ℕ) (F : A → Type 0) (r : List ℕ → Taken A) (b : B → List ℕ) (G : B → Type 0) (s : List ℕ → Taken B) → Reads a F r → Reads b G s → Reads (both a b) (AreBoth F G) (read_both r s)
unfolding both read_both
both_reads {A} {B} a F r b G s ra rb = record { again = again; was = λ d x m f e. (was d x m f e).0; fits = λ d x m f e. (was d x m f e).1 }
  where
    again : (x : A × B) (rest : List ℕ) → AreBoth F G x → read_both r s (both a b x ++ rest) ≡ Some (x, rest)
    again x rest fits =
        then_is _ (λ u more. then_read (s more) (λ y end. Some ((u, y), end))) x.0 (b x.1 ++ rest) (ap r (append_assoc (a x.0) (b x.1) rest) ∙ ra.again x.0 (b x.1 ++ rest) fits.first)
        ∙ then_is _ (λ y end. Some ((x.0, y), end)) x.1 rest (rb.again x.1 rest fits.second)

    was : (bytes : List ℕ) (x : A × B) (rest : List ℕ) → AreBytes bytes → read_both r s bytes ≡ Some (x, rest) → (bytes ≡ both a b x ++ rest) × AreBoth F G x
    was bytes x rest fits e =
        let (u, mid, first, next) = then_was (r bytes) (λ u more. then_read (s more) (λ y end. Some ((u, y), end))) x rest e in
        let (y, end, second, last) = then_was (s mid) (λ y end. Some ((u, y), end)) x rest next in
        let same = some_same _ _ _ _ last in
        let p = ra.was bytes u mid fits first in
        let more = AreBytes-behind (a u) mid bytes fits p in
        let q = rb.was mid y end more second in (
          p ∙ ap (λ (l : List ℕ). a u ++ l) q ∙ (λ i. a (same.0 i).0 ++ (b (same.0 i).1 ++ same.1 i)) ∙ sym (append_assoc (a x.0) (b x.1) rest),
          subst (AreBoth F G) same.0 (record { first = ra.fits bytes u mid fits first; second = rb.fits mid y end more second }),
        )

items_again : {A : Type 0} (code : A → List ℕ) (F : A → Type 0) (r : List ℕ → Taken A) → Reads code F r → (found xs : List A) (rest : List ℕ) → Each F xs → read_items r found (length xs) (items code xs ++ rest) ≡ Some (found ++ xs, rest)
items_again code F r ra found [] rest fits = λ i. Some (sym (append-nil found) i, rest)
items_again code F r ra found (x ∷ xs) rest fits =
    then_is _ (λ y more. read_items r (found ++ y ∷ []) (length xs) more) x (items code xs ++ rest) (ap r (append_assoc (code x) (items code xs) rest) ∙ ra.again x (items code xs ++ rest) fits.0)
    ∙ items_again code F r ra (found ++ x ∷ []) xs rest fits.1
    ∙ (λ i. Some (append_assoc found (x ∷ []) xs i, rest))

pub record ItemsWere {A : Type 0} (code : A → List ℕ) (F : A → Type 0) (n : ℕ) (bytes : List ℕ) (found ys : List A) (rest : List ℕ) (xs : List A) : Type 0 where
  pub all : ys ≡ found ++ xs
  pub is : bytes ≡ items code xs ++ rest
  pub count : length xs ≡ n
  pub each : Each F xs

items_was : {A : Type 0} (code : A → List ℕ) (F : A → Type 0) (r : List ℕ → Taken A) → Reads code F r → (n : ℕ) (found ys : List A) (bytes rest : List ℕ) → AreBytes bytes → read_items r found n bytes ≡ Some (ys, rest) → (xs : List A) × ItemsWere code F n bytes found ys rest xs
items_was code F r ra zero found ys bytes rest fits e =
    let same = some_same _ _ _ _ e in
    ([], record { all = sym same.0 ∙ sym (append-nil found); is = same.1; count = refl; each = tt })
items_was code F r ra (suc n) found ys bytes rest fits e =
    let (x, mid, first, next) = then_was (r bytes) (λ y more. read_items r (found ++ y ∷ []) n more) ys rest e in
    let p = ra.was bytes x mid fits first in
    let (xs, h) = items_was code F r ra n (found ++ x ∷ []) ys mid rest (AreBytes-behind (code x) mid bytes fits p) next in (
      x ∷ xs,
      record {
        all = h.all ∙ append_assoc found (x ∷ []) xs;
        is = p ∙ ap (λ (l : List ℕ). code x ++ l) h.is ∙ sym (append_assoc (code x) (items code xs) rest);
        count = omega (arith, h.count);
        each = (ra.fits bytes x mid fits first, h.each);
      },
    )

-- items behind their count, by any code of counts below a limit
module _ {A : Type 0} (limit : ℕ) (count : ℕ → List ℕ) (read : List ℕ → Taken ℕ) (reads : Reads count (λ n. n < limit) read) (code : A → List ℕ) (F : A → Type 0) (r : List ℕ → Taken A) (ra : Reads code F r) where
  list_again : (xs : List A) (rest : List ℕ) → length xs < limit → Each F xs → then_read (read ((count (length xs) ++ items code xs) ++ rest)) (λ n more. read_items r [] n more) ≡ Some (xs, rest)
  list_again xs rest short each =
      then_is _ (λ n more. read_items r [] n more) (length xs) (items code xs ++ rest) (ap read (append_assoc (count (length xs)) (items code xs) rest) ∙ reads.again (length xs) (items code xs ++ rest) short)
      ∙ items_again code F r ra [] xs rest each

  list_was : (bytes : List ℕ) (xs : List A) (rest : List ℕ) → AreBytes bytes → then_read (read bytes) (λ n more. read_items r [] n more) ≡ Some (xs, rest)
      → (bytes ≡ (count (length xs) ++ items code xs) ++ rest) × (length xs < limit) × Each F xs
  list_was bytes xs rest fits e =
      let (n, mid, first, next) = then_was (read bytes) (λ n more. read_items r [] n more) xs rest e in
      let p = reads.was bytes n mid fits first in
      let lt = reads.fits bytes n mid fits first in
      let (ys, h) = items_was code F r ra n [] xs mid rest (AreBytes-behind (count n) mid bytes fits p) next in (
        p ∙ (λ i. count (sym h.count i) ++ h.is i) ∙ sym (append_assoc (count (length ys)) (items code ys) rest) ∙ ap (λ (l : List A). (count (length l) ++ items code l) ++ rest) (sym h.all),
        subst (λ (l : List A). length l < limit) (sym h.all) (subst (λ (m : ℕ). m < limit) (sym h.count) lt),
        subst (λ (l : List A). Each F l) (sym h.all) h.each,
      )

pub list_reads : {A : Type 0} (code : A → List ℕ) (F : A → Type 0) (r : List ℕ → Taken A) → Reads code F r → Reads (list code) (IsList F) (read_list r)
unfolding list read_list
list_reads {A} code F r ra = record {
  again = λ xs rest fits. list_again (2 ^ 32) word read_word word_reads code F r ra xs rest fits.short fits.each;
  was = λ bytes xs rest fits e. (list_was (2 ^ 32) word read_word word_reads code F r ra bytes xs rest fits e).0;
  fits = λ bytes xs rest fits e. let found = list_was (2 ^ 32) word read_word word_reads code F r ra bytes xs rest fits e in record { short = found.1; each = found.2 };
}

pub long_list_reads : {A : Type 0} (code : A → List ℕ) (F : A → Type 0) (r : List ℕ → Taken A) → Reads code F r → Reads (long_list code) (IsLongList F) (read_long_list r)
unfolding long_list read_long_list
long_list_reads {A} code F r ra = record {
  again = λ xs rest fits. list_again (2 ^ 64) long_word read_long_word long_word_reads code F r ra xs rest fits.short fits.each;
  was = λ bytes xs rest fits e. (list_was (2 ^ 64) long_word read_long_word long_word_reads code F r ra bytes xs rest fits e).0;
  fits = λ bytes xs rest fits e. let found = list_was (2 ^ 64) long_word read_long_word long_word_reads code F r ra bytes xs rest fits e in record { short = found.1; each = found.2 };
}

-- steps of a loop that reads items
pub items_step : {A : Type 0} (r : List ℕ → Taken A) (found next : List A) (n k : ℕ) (rest more : List ℕ) (x : A) → n ≡ suc k → r rest ≡ took x more → next ≡ found ++ x ∷ [] → read_items r found n rest ≡ read_items r next k more
items_step r found next n k rest more x is here grown =
    ap (λ (m : ℕ). read_items r found m rest) is
    ∙ then_is (r rest) (λ y end. read_items r (found ++ y ∷ []) k end) x more here
    ∙ ap (λ l. read_items r l k more) (sym grown)

pub items_stop : {A : Type 0} (r : List ℕ → Taken A) (found : List A) (n k : ℕ) (rest : List ℕ) → n ≡ suc k → r rest ≡ None → read_items r found n rest ≡ None
items_stop r found n k rest is here =
    ap (λ (m : ℕ). read_items r found m rest) is
    ∙ ap (λ t. then_read t (λ y end. read_items r (found ++ y ∷ []) k end)) here

pub items_end : {A : Type 0} (r : List ℕ → Taken A) (found : List A) (n : ℕ) (rest : List ℕ) → n ≡ 0 → read_items r found n rest ≡ took found rest
items_end r found n rest is = ap (λ (m : ℕ). read_items r found m rest) is

-- a step of a loop that writes items
pub items_push : {A : Type 0} (code : A → List ℕ) (xs : List A) (x : A) → items code (xs ++ x ∷ []) ≡ items code xs ++ code x
items_push code [] x = append-nil (code x)
items_push code (y ∷ ys) x = ap (λ (l : List ℕ). code y ++ l) (items_push code ys x) ∙ sym (append_assoc (code y) (items code ys) (code x))
